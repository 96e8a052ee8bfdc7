use Rattle.std.proofs.Common.{sym, subst, ◌∙◌}
use Rattle.fc_tree_cursor.specs.Leaf.{advanced}
use Rattle.fc_tree_cursor.proofs.LeafFacts.{on_length}
use Rattle.fc_tree_cursor.specs.Gap.{IsGapIn}
use Rattle.fc_map.proofs.map.BTreeMap.run_after.Goals as goal

pub returns-in-Some-clause-run : goal.returns-in-Some-clause-run
returns-in-Some-clause-run g c =
    let gap = c.args.gap.now in
    let is = sym c.self.view_is ∙ c.in-Some.is in
    let there = rw c.as_slice.ensures.value at c.pairs_after.ensures.there in
    let slot = subst (λ m. IsGapIn m gap) is c.requires in
    subst (λ m. IsGapIn m (advanced gap c.pairs_after.result)) (sym is) (there, λ h l. on_length gap c.pairs_after.result ∙ slot.1 h l)
