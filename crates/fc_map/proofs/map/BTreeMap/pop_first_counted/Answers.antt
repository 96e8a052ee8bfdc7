use Rattle.std.proofs.Common.{length, ap, subst, arith}
use Rattle.fc_base.specs.Ascending.{IsAscending}
use Rattle.fc_tree_removal.specs.Fewest.{HasFewestMoves}
use Rattle.fc_map.proofs.PopFacts.{popped_sound, popped_cost}
use Rattle.fc_map.proofs.map.BTreeMap.pop_first_counted.Goals as goal

pub returns-clause-sound : goal.returns-clause-sound
returns-clause-sound g c =
    popped_sound c.self.inside.root c.take_first-pair.new.tree c.self.invariant.1 c.if-is_none.ensures c.take_first-pair.ensures.levels

pub invariant_of-self : goal.invariant_of-self
invariant_of-self g c =
    let pairs = c.take_first-pair.ensures.pairs in
    let longer = ap length pairs in
    let len = c.self.invariant.2 in
    ((subst (IsAscending g.K.Ord.cmp) pairs c.self.invariant.0).1, returns-clause-sound g c, omega arith)

pub returns-clause-bounded : goal.returns-clause-bounded
returns-clause-bounded g c =
    rw (← c.self.view_is)
    (popped_cost c.self.inside.root c.self.invariant.1 c.if-is_none.ensures c.args.count.now c.take_first-pair.new.count
    c.take_first-pair.ensures.comparisons c.take_first-pair.ensures.moves)

pub returns-clause-fewest : goal.returns-clause-fewest
returns-clause-fewest g c =
    subst (λ m. HasFewestMoves m c.take_first-pair.new.tree c.args.count.now c.take_first-pair.new.count) c.self.view_is c.take_first-pair.ensures.fewest

pub returns-clause-blocks : goal.returns-clause-blocks
returns-clause-blocks g c = rw (← c.self.view_is) c.take_first-pair.ensures.blocks
