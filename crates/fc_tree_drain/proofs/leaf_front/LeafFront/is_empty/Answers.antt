use Rattle.std.proofs.Common.{length, sym, ap, ◌∙◌, arith, length-append}
use Rattle.std.proofs.lemmas.Bool.{eqb-true, eq-eqb}
use Rattle.std.proofs.lemmas.List.{nil_from_length}
use Rattle.fc_tree_node.specs.Node.{items_or_none}
use Rattle.fc_tree_drain.specs.Opened.{after_front}
use Rattle.fc_tree_drain.proofs.Ends.{none_front}
use Rattle.fc_tree_drain.proofs.leaf_front.LeafFront.is_empty.Goals as goal

pub returns-then-run_len-eq0 : goal.returns-then-run_len-eq0
returns-then-run_len-eq0 g c =
    let s = c.self.inside in
    let same = ap (λ f. f.pairs) c.self.view_is in
    let size = ap length (sym same) ∙ length-append (items_or_none s.run) (after_front s.nodes) in (
      λ t. let i = eqb-true _ _ t in let n = ap length (ap after_front (nil_from_length s.nodes (omega arith))) in omega arith,
      λ e. eq-eqb _ 0 (let n = (none_front (items_or_none s.run) s.nodes c.self.invariant.0 (ap length same ∙ e)).1 in omega arith),
    )

pub returns-else-run_len-eq0 : goal.returns-else-run_len-eq0
returns-else-run_len-eq0 g c =
    let s = c.self.inside in
    let same = ap (λ f. f.pairs) c.self.view_is in
    let size = ap length (sym same) ∙ length-append (items_or_none s.run) (after_front s.nodes) in
    let z = c.if-run_len-eq0.false in (λ t. absurd (z (eqb-true _ _ t)), λ e. absurd (omega arith))
