use Rattle.std.proofs.Common.{◌≡◌, suc, ◌+◌, ◌-◌, [], drop, refl, sym, ◌∙◌, arith}
use Rattle.std.proofs.lemmas.List.{drop_all}
use Rattle.fc_tree_slots.specs.Cells.{present, row}
use Rattle.fc_tree_slots.proofs.Rows.{row_open, leave_holds, leave_done}
use Rattle.fc_tree_slots.proofs.Laid.{opened}
use Rattle.fc_tree_slots.proofs.slots.Slots.drop.Goals as goal

pub take-requires : goal.take-requires
take-requires g c =
    let s = c.self.inside in let xs = present s.cells in let m = g.row.N - s.len in let i = c.loop-i.i in let o = opened s xs c.self.invariant refl in
    (_, leave_holds [] xs m i i c.loop-i.cells (c.loop-i.invariant xs m o.is o.long) (omega (arith, o.long, c.loop-i-test.true)) (omega arith))

pub loop-i-preserved : goal.loop-i-preserved
loop-i-preserved g c =
    let i = c.loop-i.i in
    λ xs m e long. let next : i + 1 ≡ suc i = omega arith in leave_done [] xs m i i c.loop-i.cells (c.loop-i.invariant xs m e long)
    (omega (arith, c.loop-i-test.true)) (omega arith) c.take.new.self (i + 1) c.take.ensures.cells next

pub free-requires : goal.free-requires
free-requires g c =
    let s = c.self.inside in let xs = present s.cells in let m = g.row.N - s.len in let i = c.loop-i.i in let o = opened s xs c.self.invariant refl in
    let none : drop i xs ≡ [] = drop_all i xs (omega (arith, o.long, c.loop-i-test.false)) in
    let whole : g.row.N ≡ i + m = omega (arith, o.fits, c.loop-i-test.false, c.loop-i.auto.i-end) in
    c.loop-i.invariant xs m o.is o.long ∙ (λ d. row [] i (none d) m) ∙ sym (row_open [] i m g.row.N whole)
