use Rattle.std.proofs.Common.{subst, arith}
use Rattle.fc_tree_removal.specs.Fewest.{HasFewestMoves}
use Rattle.fc_map.proofs.PopFacts.{last_popped, popped_sound, popped_cost}
use Rattle.fc_map.proofs.map.BTreeMap.pop_last_counted.Goals as goal

pub returns-clause-sound : goal.returns-clause-sound
returns-clause-sound g c =
    popped_sound c.self.inside.root c.take_last-pair.new.tree c.self.invariant.1 c.if-is_none.ensures c.take_last-pair.ensures.levels

pub invariant_of-self : goal.invariant_of-self
invariant_of-self g c =
    let left = last_popped g.K.Ord.cmp c.self.inside.root c.take_last-pair.new.tree c.take_last-pair.result c.self.invariant.0 c.take_last-pair.ensures.pairs in
    let longer = left.1 in
    let len = c.self.invariant.2 in
    (left.0, returns-clause-sound g c, omega arith)

pub returns-clause-ascending : goal.returns-clause-ascending
returns-clause-ascending g c = (invariant_of-self g c).0

pub returns-clause-bounded : goal.returns-clause-bounded
returns-clause-bounded g c =
    rw (← c.self.view_is)
    (popped_cost c.self.inside.root c.self.invariant.1 c.if-is_none.ensures c.args.count.now c.take_last-pair.new.count
    c.take_last-pair.ensures.comparisons c.take_last-pair.ensures.moves)

pub returns-clause-fewest : goal.returns-clause-fewest
returns-clause-fewest g c =
    subst (λ m. HasFewestMoves m c.take_last-pair.new.tree c.args.count.now c.take_last-pair.new.count) c.self.view_is c.take_last-pair.ensures.fewest

pub returns-clause-blocks : goal.returns-clause-blocks
returns-clause-blocks g c = rw (← c.self.view_is) c.take_last-pair.ensures.blocks
