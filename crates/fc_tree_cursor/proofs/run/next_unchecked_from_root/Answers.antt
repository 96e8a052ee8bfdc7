use Rattle.std.proofs.Common.{get_or, subst, ap, ◌∙◌}
use Rattle.fc_tree_node.specs.Node.{own_pairs}
use Rattle.fc_tree_cursor.specs.Gap.{IsGapIn}
use Rattle.fc_tree_cursor.proofs.Ways.{IsNextAt, IsPassed, passed_next}
use Rattle.fc_tree_cursor.proofs.run.next_unchecked_from_root.Given as given
use Rattle.fc_tree_cursor.proofs.run.next_unchecked_from_root.Goals as goal
use Rattle.fc_tree_cursor.proofs.run.next_unchecked_from_root.Goals.{After-next_leaf_edge_at}

passed : (g : given.Over) (c : After-next_leaf_edge_at g) → IsPassed c.args.root.now c.args.gap.now c.next_leaf_edge_at.new.gap c.pair-pair.result.now
passed g c =
    let e = c.lowest_with_next-level.ensures in
    let best = c.lowest_with_next-level.result.0.now in
    let at : IsNextAt c.args.gap.now c.in-Some.node best c.lowest_with_next-level.result.1 _ = record { way = e.way; own = e.own; before = e.before } in
    let pair = c.pair-pair.ensures ∙ ap (λ i. get_or (own_pairs best) i c.pair-pair.result.now) c.step.ensures in
    passed_next c.args.root.now c.in-Some.node _ c.args.gap.now c.next_leaf_edge_at.new.gap _ c.pair-pair.result.now c.in-Some.is c.requires.sound at pair
    c.next_leaf_edge_at.ensures

pub leaf_of-requires-clause-gap : goal.leaf_of-requires-clause-gap
leaf_of-requires-clause-gap g c = subst (λ d. IsGapIn d c.next_leaf_edge_at.new.gap) c.in-Some.is (passed g c).slot

pub returns-clause-step : goal.returns-clause-step
returns-clause-step g c = (passed g (goal.at.returns-clause-step g c).After-next_leaf_edge_at).step

pub returns-clause-pair : goal.returns-clause-pair
returns-clause-pair g c = (passed g (goal.at.returns-clause-pair g c).After-next_leaf_edge_at).pair

pub returns-clause-gap : goal.returns-clause-gap
returns-clause-gap g c = (passed g (goal.at.returns-clause-gap g c).After-next_leaf_edge_at).slot
