use Rattle.std.proofs.Common.{refl}
use Rattle.fc_command.specs.SetStep.{refused}
use Rattle.fc_command.proofs.CopyFacts.{refused_found}
use Rattle.fc_command.proofs.command.sets.find.Goals as goal

-- the copy of the item was refused
pub returns-in-Err : goal.returns-in-Err
returns-in-Err g c o = refused c.in-Err.e (refused_found g.K.TryClone.may_refuse _ c.in-Some.held.now c.in-Err.e c.in-Some.ensures.item c.in-Err.ensures)
    (refl, refl, refl)
