use Rattle.std.proofs.Common.{◌≡◌, length, sym, ap, subst, ◌∙◌, arith}
use Rattle.fc_map.specs.Entries.{entries}
use Rattle.fc_tree_cursor.specs.Leaf.{advanced}
use Rattle.fc_tree_cursor.proofs.LeafFacts.{on_none}
use Rattle.fc_tree_cursor.specs.Gap.{AreEndsIn}
use Rattle.fc_tree_node.specs.TreePlace.{before_gap_in}
use Rattle.fc_map.proofs.EndFacts.{gap_less}
use Rattle.fc_map.proofs.map.BTreeMap.iter_mut.Goals as goal

pub invariant_of-result : goal.invariant_of-result
invariant_of-result g c =
    let m = c.args.self.now in
    let front = c.whole_ends-front.result.0 in
    let back = c.whole_ends-front.result.1 in
    let e = c.whole_ends-front.ensures in
    let full = c.no_more_than-full.ensures in
    let len : c.self.inside.len ≡ length (entries m) = rw c.self.view_is at c.self.invariant.2 in
    let f : length (before_gap_in m (advanced front 0)) ≡ 0 = ap (λ p. length (before_gap_in m p)) (on_none front) ∙ e.front in
    let most = full.most in
    record {
      ends = subst (λ p. AreEndsIn m p back) (sym (on_none front)) e.ends;
      run_is =
          gap_less m front _ _ c.run_after.ensures.run full.count;
      front_counted = omega (arith, f);
      back_counted = omega (arith, e.back, len);
      within =
          omega (arith, most);
    }
