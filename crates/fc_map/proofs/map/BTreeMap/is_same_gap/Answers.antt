use Rattle.std.proofs.Common.{◌-◌, sym, ap, length, ◌∙◌, arith}
use Rattle.std.specs.Cmp.Lexicographic.{same_text}
use Rattle.fc_tree_node.specs.TreePlace.{before_gap_in}
use Rattle.fc_map.proofs.EndFacts.{same_gap, steps_fit, text_same}
use Rattle.fc_map.proofs.map.BTreeMap.is_same_gap.Goals as goal

pub advance-requires : goal.advance-requires
advance-requires g c = record {
  small = λ some.
      let fit = steps_fit c.args.self.now c.args.front.now c.args.gone (length c.args.front.now - 1) (rw c.self.view_is at c.self.invariant.1) c.requires.0
      (omega arith) in
      omega (arith, fit);
}

pub returns : goal.returns
returns g c =
    let m = c.args.self.now in
    let p = c.as_slice.result.now in
    let q = c.as_slice-2.result.now in
    let x = c.as_slice.ensures.value ∙ c.advance.ensures in
    let y = c.as_slice-2.ensures.value in
    let sound = rw c.self.view_is at c.self.invariant.1 in (
      λ r. ap (λ z. length (before_gap_in m z)) (sym x ∙ same_text p q (sym r ∙ c.eq.ensures) ∙ y),
      λ e. text_same p q _ c.eq.ensures (x ∙ same_gap m _ _ sound c.requires.0 c.requires.1 e ∙ sym y),
    )
