use Rattle.std.proofs.Common.{◌-◌, ◌<◌, length, Some, get_or, ap, subst, ◌∙◌, arith}
use Rattle.fc_tree_node.specs.Leaf.{leaf_at}
use Rattle.fc_tree_node.specs.Node.{own_pairs}
use Rattle.fc_tree_cursor.proofs.Places.{next_there, on_tree, leaf_next}
use Rattle.fc_tree_cursor.proofs.beside.next_kv.Goals as goal

pub returns-then-step-len : goal.returns-then-step-len
returns-then-step-len g c =
    let p = c.args.path.now in
    let root = c.args.root.now in
    let t = on_tree p root c.requires.levels c.requires.gap in
    let some = t.some in
    let step = c.step.ensures ∙ ap (λ k. get_or p (k - 1) 0) c.len.ensures.value in
    let lt : get_or p (length p - 1) 0 < length (own_pairs (leaf_at p root)) =
    subst (λ n. get_or p (length p - 1) 0 < length (own_pairs n)) c.requires.leaf (omega (arith, step)) in
    let r = leaf_next p (length p - 1) (length p - 1) root t.levels (omega (arith, some)) (omega (arith, some)) c.requires.gap.0 lt in
    next_there (Some root) p _ r.0 r.1
