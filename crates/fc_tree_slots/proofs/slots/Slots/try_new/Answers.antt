use Rattle.std.proofs.Common.{[], refl, arith}
use Rattle.fc_tree_slots.proofs.Laid.{packed}
use Rattle.fc_tree_slots.proofs.slots.Slots.try_new.Goals as goal

pub invariant_of-result : goal.invariant_of-result
invariant_of-result g c = (packed c.in_ok-try_new.field-0 [] 0 g.row.N 0 g.row.N c.in_ok-try_new.ensures refl (omega arith)).0

pub returns-clause-empty : goal.returns-clause-empty
returns-clause-empty g c = (packed c.in_ok-try_new.field-0 [] 0 g.row.N 0 g.row.N c.in_ok-try_new.ensures refl (omega arith)).1
