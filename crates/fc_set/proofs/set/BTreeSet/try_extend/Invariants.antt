use Rattle.std.proofs.Common.{◌≡◌}
use Rattle.fc_set.specs.Items.{items, extended_items}
use Rattle.fc_set.proofs.set.BTreeSet.try_extend.Given as goal

abbrev pub invariant-loop-item : goal.invariant-loop-item
invariant-loop-item g l = (goal.iterator-loop-item g).can_next l.item-iterator
    × (goal.iterator-loop-item g).is_finite l.item-iterator
    × (items l.self ≡ extended_items g.T.Ord.cmp (items l.fn.self) l.yielded)
