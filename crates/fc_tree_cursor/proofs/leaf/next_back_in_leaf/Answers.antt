use Rattle.std.proofs.Common.{◌≡◌, ◌-◌, ◌<◌, length, get_or, ap, subst, ◌∙◌, arith}
use Rattle.std.specs.Prelude.{slice_set}
use Rattle.fc_tree_cursor.specs.Leaf.{advanced}
use Rattle.fc_tree_cursor.proofs.LeafFacts.{set_back}
use Rattle.fc_tree_cursor.proofs.leaf.next_back_in_leaf.Goals as goal

pub returns : goal.returns
returns c =
    let p = c.args.gap.now in
    let last = c.len-last.result - 1 in
    let before = c.requires.before in
    let same : length p - 1 ≡ last = omega arith in
    ap (λ q. advanced q 1) (c.set.ensures ∙ ap (λ k. slice_set p last (k - 1)) c.step.ensures)
    ∙ set_back p last (omega arith) (subst (λ i. 0 < get_or p i 0) same before)
