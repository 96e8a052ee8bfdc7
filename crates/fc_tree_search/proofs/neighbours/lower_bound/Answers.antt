use Rattle.std.proofs.Common.{arith, refl, ap, ◌∙◌}
use Rattle.fc_tree_search.specs.Neighbours.{first_item}
use Rattle.fc_tree_search.proofs.SearchFacts.{IsSearch, way_levels}
use Rattle.fc_tree_search.proofs.SearchSteps.{ends_at, ends_in, has_child, goes_on}
use Rattle.fc_tree_search.proofs.PassedFacts.{passed_bound}
use Rattle.fc_tree_search.proofs.NeighbourFacts.{found_first, none_first, way_after}
use Rattle.fc_tree_search.proofs.neighbours.lower_bound.Given as given
use Rattle.fc_tree_search.proofs.neighbours.lower_bound.Goals as goal
use Rattle.fc_tree_search.proofs.neighbours.lower_bound.Goals.{After-search_node}

searched : (g : given.Over) (c : After-search_node g)
    → IsSearch g.K.Ord.cmp g.Q.Query.order (g.Q.Query.sought c.args.key) c.args.root.now c.down.node.now c.down.invariant.0.0
searched g c = record { fits = g.met.Q.Query.fits; levels = c.requires.levels; order = c.requires.order; way = c.down.invariant.0.1 }

pub next_at_own-requires-clause-levels : goal.next_at_own-requires-clause-levels
next_at_own-requires-clause-levels g c = let d = way_levels _ _ c.requires.levels c.down.invariant.0.1 in (d.0, d.2)

pub returns-in-Ok-clause-value : goal.returns-in-Ok-clause-value
returns-in-Ok-clause-value g c =
    found_first (searched g (goal.at.returns-in-Ok-clause-value g c).After-search_node) c.in-Ok.i c.in-Ok.ensures.found c.args.takes_equal _ _
    c.next_at_own.ensures.equal c.next_at_own.ensures.beside c.down.invariant.0.2

pub returns-in-Ok-clause-comparisons : goal.returns-in-Ok-clause-comparisons
returns-in-Ok-clause-comparisons g c =
    let f = ends_at (searched g (goal.at.returns-in-Ok-clause-comparisons g c).After-search_node) c.in-Ok.i c.in-Ok.ensures.found in
    omega (arith, c.in-Ok.ensures.comparisons)

pub returns-in-Ok-clause-bounded : goal.returns-in-Ok-clause-bounded
returns-in-Ok-clause-bounded g c =
    let e = returns-in-Ok-clause-comparisons g c in
    λ h l. let b = passed_bound g.Q.Query.order (g.Q.Query.sought c.args.key) h c.args.root.now l in omega (arith, e)

pub returns-then-is_leaf-clause-value : goal.returns-then-is_leaf-clause-value
returns-then-is_leaf-clause-value g c =
    let s = searched g (goal.at.returns-then-is_leaf-clause-value g c).After-search_node in
    c.next_after_child-next.ensures _ c.down.invariant.0.2
    ∙ ap first_item (none_first s c.in-Err.gap c.in-Err.ensures.gap (c.if-is_leaf.ensures.0 refl) c.args.takes_equal)

pub returns-then-is_leaf-clause-comparisons : goal.returns-then-is_leaf-clause-comparisons
returns-then-is_leaf-clause-comparisons g c =
    let s = searched g (goal.at.returns-then-is_leaf-clause-comparisons g c).After-search_node in
    let f = ends_in s c.in-Err.gap c.in-Err.ensures.gap (c.if-is_leaf.ensures.0 refl) in
    omega (arith, c.in-Err.ensures.comparisons)

pub returns-then-is_leaf-clause-bounded : goal.returns-then-is_leaf-clause-bounded
returns-then-is_leaf-clause-bounded g c =
    let e = returns-then-is_leaf-clause-comparisons g c in
    λ h l. let b = passed_bound g.Q.Query.order (g.Q.Query.sought c.args.key) h c.args.root.now l in omega (arith, e)

pub child-node-requires : goal.child-node-requires
child-node-requires g c =
    let there = has_child (searched g (goal.at.child-node-requires g c).After-search_node) c.in-Err.gap c.in-Err.ensures.gap c.if-is_leaf.ensures.1 in
    omega arith

pub down-smaller : goal.down-smaller
down-smaller g c =
    let s = searched g (goal.at.down-smaller g c).After-search_node in
    (goes_on s c.in-Err.gap c.child-node.result.now c.in-Err.ensures.gap c.if-is_leaf.ensures.1 c.child-node.ensures).fewer

pub down-preserved : goal.down-preserved
down-preserved g c =
    let s = searched g (goal.at.down-preserved g c).After-search_node in
    let next = goes_on s c.in-Err.gap c.child-node.result.now c.in-Err.ensures.gap c.if-is_leaf.ensures.1 c.child-node.ensures in (
      (_, next.search.way, c.next_after_child-next.ensures _ c.down.invariant.0.2 ∙ ap first_item (way_after _ _ c.down.invariant.0.1 c.in-Err.gap)),
      omega (arith, c.in-Err.ensures.comparisons),
      omega (arith, c.in-Err.ensures.moves),
    )
