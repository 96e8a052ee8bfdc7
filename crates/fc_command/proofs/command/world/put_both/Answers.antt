use Rattle.std.proofs.Common.{refl}
use Rattle.fc_command.specs.Step.{refused}
use Rattle.fc_command.proofs.command.world.put_both.Goals as goal

-- one of the two insertions was refused
pub returns-in-Err : goal.returns-in-Err
returns-in-Err g c =
    let why = c.in-Err.ensures in
    let back = why.back in
    refused c.in-Err.e why.error (rw (back.0, back.1, back.2, back.3) refl, why.unchanged.0, why.unchanged.1)
