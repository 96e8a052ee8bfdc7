use Rattle.std.proofs.Common.{arith, refl}
use Rattle.fc_tree_search.proofs.SearchFacts.{IsSearch, value_found, value_none}
use Rattle.fc_tree_search.proofs.SearchSteps.{ends_at, ends_in, has_child, goes_on}
use Rattle.fc_tree_search.proofs.PassedFacts.{passed_bound}
use Rattle.fc_tree_search.proofs.search.get.Given as given
use Rattle.fc_tree_search.proofs.search.get.Goals as goal
use Rattle.fc_tree_search.proofs.search.get.Goals.{After-search_node}

searched : (g : given.Over) (c : After-search_node g)
    → IsSearch g.K.Ord.cmp g.Q.Query.order (g.Q.Query.sought c.args.key) c.args.root.now c.down.node.now c.down.invariant.0.0
searched g c = record { fits = g.met.Q.Query.fits; levels = c.requires.levels; order = c.requires.order; way = c.down.invariant.0.1 }

pub returns-in-Ok-clause-value : goal.returns-in-Ok-clause-value
returns-in-Ok-clause-value g c =
    value_found (searched g (goal.at.returns-in-Ok-clause-value g c).After-search_node) c.in-Ok.i c.pair.result.now c.in-Ok.ensures.found c.pair.ensures

pub returns-in-Ok-clause-comparisons : goal.returns-in-Ok-clause-comparisons
returns-in-Ok-clause-comparisons g c =
    let f = ends_at (searched g (goal.at.returns-in-Ok-clause-comparisons g c).After-search_node) c.in-Ok.i c.in-Ok.ensures.found in
    omega (arith, c.in-Ok.ensures.comparisons)

pub returns-in-Ok-clause-bounded : goal.returns-in-Ok-clause-bounded
returns-in-Ok-clause-bounded g c =
    let e = returns-in-Ok-clause-comparisons g c in
    λ h l. let b = passed_bound g.Q.Query.order (g.Q.Query.sought c.args.key) h c.args.root.now l in omega (arith, e)

pub returns-then-is_leaf-clause-value : goal.returns-then-is_leaf-clause-value
returns-then-is_leaf-clause-value g c =
    value_none (searched g (goal.at.returns-then-is_leaf-clause-value g c).After-search_node) c.in-Err.gap c.in-Err.ensures.gap (c.if-is_leaf.ensures.0 refl)

pub returns-then-is_leaf-clause-comparisons : goal.returns-then-is_leaf-clause-comparisons
returns-then-is_leaf-clause-comparisons g c =
    let s = searched g (goal.at.returns-then-is_leaf-clause-comparisons g c).After-search_node in
    let f = ends_in s c.in-Err.gap c.in-Err.ensures.gap (c.if-is_leaf.ensures.0 refl) in
    omega (arith, c.in-Err.ensures.comparisons)

pub returns-then-is_leaf-clause-bounded : goal.returns-then-is_leaf-clause-bounded
returns-then-is_leaf-clause-bounded g c =
    let e = returns-then-is_leaf-clause-comparisons g c in
    λ h l. let b = passed_bound g.Q.Query.order (g.Q.Query.sought c.args.key) h c.args.root.now l in omega (arith, e)

pub child-node-requires : goal.child-node-requires
child-node-requires g c =
    let there = has_child (searched g (goal.at.child-node-requires g c).After-search_node) c.in-Err.gap c.in-Err.ensures.gap c.if-is_leaf.ensures.1 in
    omega arith

pub down-smaller : goal.down-smaller
down-smaller g c =
    let s = searched g (goal.at.down-smaller g c).After-search_node in
    (goes_on s c.in-Err.gap c.child-node.result.now c.in-Err.ensures.gap c.if-is_leaf.ensures.1 c.child-node.ensures).fewer

pub down-preserved : goal.down-preserved
down-preserved g c =
    let s = searched g (goal.at.down-preserved g c).After-search_node in
    let next = goes_on s c.in-Err.gap c.child-node.result.now c.in-Err.ensures.gap c.if-is_leaf.ensures.1 c.child-node.ensures in
    ((_, next.search.way), omega (arith, c.in-Err.ensures.comparisons), omega (arith, c.in-Err.ensures.moves))
