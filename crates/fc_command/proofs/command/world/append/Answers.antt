use Rattle.std.proofs.Common.{refl}
use Rattle.fc_command.specs.Step.{refused}
use Rattle.fc_command.proofs.command.world.append.Goals as goal

pub returns-in-Err : goal.returns-in-Err
returns-in-Err g c =
    let why = c.in-Err.ensures in
    refused c.in-Err.e why.error (refl, why.unchanged.0, why.unchanged.1)
