use Rattle.std.proofs.Common.{◌++◌, length, arith, ap, ◌∙◌}
use Rattle.std.proofs.lemmas.List.{length-append}
use Rattle.fc_tree_node.specs.Tree.{entries}
use Rattle.fc_tree_node.specs.TreePlace.{before_gap_in, after_gap_in}
use Rattle.fc_tree_cursor.specs.Span.{between}
use Rattle.fc_tree_retain.specs.declared.filter.Counted.{Counted}
use Rattle.fc_tree_retain.proofs.Between.{counted, uncounted, stretch_ascending, stretch_parts}
use Rattle.fc_tree_retain.proofs.stretch.filter_tree_range.Goals as goal

pub returns-clause-filtered : goal.returns-clause-filtered
returns-clause-filtered g c =
    let e = c.filter_root_range.ensures.filtered in (
      c.filter_root_range.new.filter.filter,
      e.0,
      uncounted {T = Counted g.row.S.Denot} (λ s. s.filter) (λ s. s.gone) g.S.Filter.asked g.S.Filter.given _ _ _ _ e.1,
      e.2,
    )

pub returns-clause-ascending : goal.returns-clause-ascending
returns-clause-ascending g c cmp a =
    let e = c.filter_root_range.ensures.filtered in
    let m = c.args.tree.now in
    stretch_ascending _ cmp _ _ (entries m) _ e.0 (before_gap_in m c.args.front.now) (between m c.args.front.now c.args.back.now)
    (after_gap_in m c.args.back.now) (stretch_parts m c.args.front.now c.args.back.now c.requires.sound c.requires.ends) e.1 e.2 a

pub returns-clause-count : goal.returns-clause-count
returns-clause-count g c =
    let e = c.filter_root_range.ensures.filtered in
    let m = c.args.tree.now in
    let mid = between m c.args.front.now c.args.back.now in
    let before = before_gap_in m c.args.front.now in
    let after = after_gap_in m c.args.back.now in
    let old = ap length (stretch_parts m c.args.front.now c.args.back.now c.requires.sound c.requires.ends) ∙ length-append before (mid ++ after) in
    let new = ap length e.2 ∙ length-append before (e.0 ++ after) in
    let x = length-append mid after in
    let y = length-append e.0 after in
    let n = counted {T = Counted g.row.S.Denot} (λ s. s.filter) (λ s. s.gone) g.S.Filter.asked g.S.Filter.given mid e.0 _ _ e.1 (omega arith) in
    omega arith
