use Rattle.std.proofs.Common.{refl}
use Rattle.fc_command.specs.Step.{refused}
use Rattle.fc_command.proofs.CopyFacts.{refused_found}
use Rattle.fc_command.proofs.command.world.get.Goals as goal

-- the copy of the value was refused
pub returns-in-Err : goal.returns-in-Err
returns-in-Err g c o = refused c.in-Err.e (refused_found g.V.TryClone.may_refuse _ c.in-Some.value.now c.in-Err.e c.in-Some.ensures.value c.in-Err.ensures)
    (refl, refl, refl)
