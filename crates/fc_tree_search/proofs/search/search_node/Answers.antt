use Rattle.std.proofs.Common.{arith, sym, ◌∙◌}
use Rattle.fc_tree_search.proofs.SearchFacts.{lower_here, less_from}
use Rattle.fc_tree_search.proofs.search.search_node.Goals as goal

pub loop-i-preserved : goal.loop-i-preserved
loop-i-preserved g c =
    let q = less_from _ (sym c.is_lt.ensures ∙ c.if-is_lt.true) ∙ c.compare-order.ensures.value in
    let b = lower_here g.Q.Query.order (g.Q.Query.sought c.args.key) _ c.loop-i.i c.pair.result.now (omega arith) c.loop-i.invariant.0 c.pair.ensures q in
    (b, omega arith, omega arith)
