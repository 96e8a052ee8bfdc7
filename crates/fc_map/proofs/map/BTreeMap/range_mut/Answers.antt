use Rattle.std.proofs.Common.{length, refl, sym, ap, subst, ◌∙◌}
use Rattle.fc_tree_cursor.proofs.LeafFacts.{on_none}
use Rattle.fc_tree_cursor.specs.Gap.{AreEndsIn}
use Rattle.fc_tree_node.specs.TreePlace.{before_gap_in}
use Rattle.fc_map.proofs.EndFacts.{state_is}
use Rattle.fc_map.proofs.map.BTreeMap.range_mut.Goals as goal

pub invariant_of-result : goal.invariant_of-result
invariant_of-result g c =
    let m = c.args.self.now in
    let front = c.range_ends-front.result.0 in
    let back = c.range_ends-front.result.1 in
    record { ends = subst (λ p. AreEndsIn m p back) (sym (on_none front)) c.range_ends-front.ensures.ends; run_is = c.run_after-full.ensures.run }

pub returns-clause-start : goal.returns-clause-start
returns-clause-start g c =
    let m = c.args.self.now in
    let e = c.range_ends-front.ensures in
    state_is _ _ _ _ _ _ refl (ap (λ p. length (before_gap_in m p)) (on_none c.range_ends-front.result.0) ∙ e.front) e.back
