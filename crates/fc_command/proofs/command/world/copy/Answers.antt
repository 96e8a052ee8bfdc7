use Rattle.std.proofs.Common.{refl}
use Rattle.fc_command.specs.Step.{refused}
use Rattle.fc_command.proofs.command.world.copy.Goals as goal

-- a node or a copy was refused
pub returns-in-Err : goal.returns-in-Err
returns-in-Err g c = refused c.in-Err.e c.in-Err.ensures.copied (refl, refl, refl)
