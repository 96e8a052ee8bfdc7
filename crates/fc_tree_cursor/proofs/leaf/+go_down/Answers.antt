use Rattle.std.proofs.Common.{◌≡◌, ◌+◌, ◌-◌, ◌≤◌, ◌∷◌, suc, length, get_or, arith, subst, ap, ◌∙◌, add-one}
use Rattle.fc_tree_node.specs.Node.{own_pairs, child_at}
use Rattle.fc_tree_node.specs.Path.{IsPath}
use Rattle.fc_tree_cursor.specs.Gap.{zeros}
use Rattle.fc_tree_cursor.specs.Leaf.{advanced}
use Rattle.fc_tree_cursor.proofs.LeafFacts.{down_leaf, down_child}
use Rattle.fc_tree_cursor.proofs.leaf.+go_down.Goals as goal

pub returns-then-level-len : goal.returns-then-level-len
returns-then-level-len g t c =
    let gap = c.args.gap.now in
    let n = c.args.node.now in
    let end = c.if-level-len.true in
    let len = c.len-len.ensures.value in
    let r = down_leaf gap n c.args.level (omega (arith, end, len)) c.requires.step in
    let same : length (own_pairs n) - get_or gap c.args.level 0 ≡ c.len.result - c.step-step.result =
    (let a = c.len.ensures.value in let b = c.step-step.ensures in omega (arith, a, b)) in
    let steps = get_or gap c.args.level 0 ∷ zeros (length gap - suc c.args.level) in
    record {
      gap = r.gap_is;
      run = subst (λ k. IsPath (advanced steps k) n) same r.run_is;
      all = λ k w. subst (λ most. k ≤ most) same (r.run_all k w);
    }

pub returns : goal.returns
returns g t c =
    let gap = c.args.gap.now in
    let n = c.args.node.now in
    let level = c.args.level in
    let further = c.if-level-len.false in
    let len = c.len-len.ensures.value in
    let k = c.requires.level in
    let e = c.go_down.ensures in
    let r = down_child gap c.set.new.self c.go_down.new.gap n c.child.result.now level (level + 1) c.go_down.result (add-one level)
    (omega (arith, further, len, k)) c.requires.step c.set.ensures (c.child.ensures ∙ ap (child_at n) c.step-step.ensures)
    (record { gap_is = e.gap; run_is = e.run; run_all = e.all }) in
    record { gap = r.gap_is; run = r.run_is; all = r.run_all }
