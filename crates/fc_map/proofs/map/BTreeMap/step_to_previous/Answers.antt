use Rattle.std.proofs.Common.{◌-◌, ◌≤◌, length, get_or, sym, ap, subst, ◌∙◌, arith}
use Rattle.fc_base.specs.Sizes.{capacity}
use Rattle.fc_tree_cursor.specs.Gap.{IsGapIn}
use Rattle.fc_tree_cursor.proofs.GapFacts.{gap_small}
use Rattle.fc_tree_cursor.proofs.LeafFacts.{on_length, gap_near}
use Rattle.fc_map.proofs.EndFacts.{gap_some}
use Rattle.fc_map.proofs.map.BTreeMap.step_to_previous.Goals as goal

pub next_back_in_leaf-requires-clause-small : goal.next_back_in_leaf-requires-clause-small
next_back_in_leaf-requires-clause-small g c =
    let m = c.args.self.now in
    let gap = c.args.gap.now in
    let sound = rw c.self.view_is at c.self.invariant.1 in
    let some = gap_some m gap gap sound c.requires.gap c.requires.some in
    let small : get_or gap (length gap - 1) 0 ≤ capacity = gap_small m gap (length gap - 1) sound c.requires.gap (omega arith) in
    omega arith

pub returns : goal.returns
returns g c =
    let m = c.args.self.now in
    let gap = c.args.gap.now in
    let next = c.next_back_in_leaf.new.gap in
    let sound = rw c.self.view_is at c.self.invariant.1 in
    let same = c.next_back_in_leaf.ensures in
    let some = gap_some m gap gap sound c.requires.gap c.requires.some in
    let long = sym (on_length next 1) ∙ ap length same in
    let r = gap_near m next 0 sound (omega arith) (subst (IsGapIn m) (sym same) c.requires.gap) in
    let count = rw same at r.count in
    let before = r.before in
    record { place = r.place; before = omega arith; gap = r.start; step = sym count; sound = sound }
