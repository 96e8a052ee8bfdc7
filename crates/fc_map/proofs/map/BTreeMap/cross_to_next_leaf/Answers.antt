use Rattle.std.proofs.Common.{◌-◌, ◌<◌, length, arith, refl, sym, subst, ◌∙◌}
use Rattle.fc_tree_cursor.specs.Gap.{IsGapIn}
use Rattle.fc_tree_node.specs.TreePlace.{before_gap_in}
use Rattle.fc_tree_cursor.specs.Leaf.{advanced}
use Rattle.fc_map.proofs.EndFacts.{steps_fit, on_tree, step_out, IsStepOn}
use Rattle.fc_map.proofs.map.BTreeMap.cross_to_next_leaf.Goals as goal

pub advance-requires : goal.advance-requires
advance-requires g c = record {
  small = λ some.
      let fit = steps_fit c.args.self.now c.args.path.now c.args.gone.now (length c.args.path.now - 1) (rw c.self.view_is at c.self.invariant.1) c.requires.gap
      (omega arith) in
      omega (arith, fit);
}

pub next_place-last-requires : goal.next_place-last-requires
next_place-last-requires g c =
    let m = c.args.self.now in
    let n = c.in-Some.root in
    let is = sym c.self.view_is ∙ c.in-Some.is in
    let sound = rw c.self.view_is at c.self.invariant.1 in
    let q = c.advance.new.gap in
    let slot : IsGapIn m q = subst (IsGapIn m) (sym c.advance.ensures) c.requires.gap in
    let o = c.requires.some in
    let later = subst (λ p. length (before_gap_in m p) < length (before_gap_in m o.0)) (sym c.advance.ensures) o.2 in
    let t = on_tree m n q o.0 is sound slot o.1 later in
    record { levels = t.levels; gap = t.slot; later = t.later }

pub returns : goal.returns
returns g c =
    let m = c.args.self.now in
    let n = c.in-Some.root in
    let is = sym c.self.view_is ∙ c.in-Some.is in
    let sound = rw c.self.view_is at c.self.invariant.1 in
    let q = c.advance.new.gap in
    let slot : IsGapIn m q = subst (IsGapIn m) (sym c.advance.ensures) c.requires.gap in
    let e = c.next_place-last.ensures in
    let next = c.next_place-last.new.gap in
    let last = c.next_place-last.result.0 in
    let place = c.next_place-last.result.1 in
    let out = step_out m n q next last place c.next_place-last.result.2 is sound slot
    (record { way_is = e.way; own = e.own; place_is = e.place; before = e.before; next_is = e.gap; run_is = e.run }) in
    let r = subst (λ p. IsStepOn m p next 0 last place) c.advance.ensures out.0 in
    record {
      way = r.way_is;
      small = r.small;
      place = r.place_is;
      before = r.before;
      gone = refl;
      gap = r.gap;
      full = out.1;
      all = λ k w. e.all k (subst (λ o. IsGapIn o (advanced next k)) is w).0;
      step = r.count;
      sound = sound;
    }
