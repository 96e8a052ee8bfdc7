use Rattle.std.proofs.Common.{refl}
use Rattle.fc_command.specs.Step.{refused}
use Rattle.fc_command.proofs.command.world.split_off.Goals as goal

-- it was refused
pub returns : goal.returns
returns g c =
    let why = c.in-Err.ensures in
    refused c.in-Err.e why.error (refl, why.unchanged, refl)
