use Rattle.std.proofs.Common.{refl}
use Rattle.fc_command.specs.SetStep.{refused}
use Rattle.fc_command.proofs.command.operations.list.Goals as goal

-- room or a copy was refused
pub returns-in-Err : goal.returns-in-Err
returns-in-Err g c = refused c.in-Err.e c.in-Err.ensures.error (refl, refl, refl)
