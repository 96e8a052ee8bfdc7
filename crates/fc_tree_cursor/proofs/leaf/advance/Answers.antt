use Rattle.std.proofs.Common.{◌+◌, ◌-◌, ap, ◌∙◌, arith}
use Rattle.std.specs.Prelude.{slice_set}
use Rattle.fc_tree_cursor.proofs.LeafFacts.{last_leaf_edge_at}
use Rattle.fc_tree_cursor.proofs.leaf.advance.Goals as goal

pub returns : goal.returns
returns c =
    let last = c.len-last.result - 1 in
    c.set.ensures ∙ ap (λ k. slice_set c.args.gap.now last (k + c.args.count)) c.step.ensures ∙ last_leaf_edge_at c.args.gap.now last c.args.count (omega arith)
