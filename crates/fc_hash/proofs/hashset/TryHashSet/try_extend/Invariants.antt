use Rattle.fc_hash.specs.Items.{IsSet}
use Rattle.fc_hash.specs.ItemsPut.{ArePutIn}
use Rattle.fc_hash.proofs.hashset.TryHashSet.try_extend.Given as goal

abbrev pub invariant-items : goal.invariant-items
invariant-items g l =
    (goal.iterator-items g).can_next l.item-iterator ×
    (goal.iterator-items g).is_finite l.item-iterator ×
    ArePutIn g.T.PartialEq.eq l.fn.self.items l.yielded l.self.items ×
    IsSet g.T.PartialEq.eq l.self.items
