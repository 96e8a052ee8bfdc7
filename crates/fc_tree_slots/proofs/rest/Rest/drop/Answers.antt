use Rattle.std.proofs.Common.{◌≡◌, ◌+◌, ◌-◌, suc, [], length, refl, ap, ◌∙◌, arith}
use Rattle.fc_tree_slots.specs.Cells.{present, row}
use Rattle.fc_tree_slots.proofs.Rests.{rest_of, held_at, first_taken, all_gone}
use Rattle.fc_tree_slots.proofs.rest.Rest.drop.Goals as goal

pub loop-i-init : goal.loop-i-init
loop-i-init g c = let s = c.self.inside in let r = rest_of s (present s.cells) c.self.invariant refl in
    (present s.cells, g.row.N - s.end, r.is, r.long, omega (arith, r.fits))

pub take-requires : goal.take-requires
take-requires g c = let v = c.loop-i.invariant in (
  _,
  held_at c.loop-i.cells v.0 c.loop-i.i v.1 0 c.loop-i.i v.2 (omega (arith, v.3, c.loop-i-test.true))
      (omega arith),
)

pub loop-i-preserved : goal.loop-i-preserved
loop-i-preserved g c =
    let v = c.loop-i.invariant in let i = c.loop-i.i in let next : suc i ≡ i + 1 = omega arith in
    let t = first_taken c.loop-i.cells c.take.new.self v.0 i v.1 c.take.result v.2 (omega (arith, v.3, c.loop-i-test.true)) c.take.ensures.value
    c.take.ensures.cells in
    (t.0, v.1, t.2 ∙ ap (λ a. row [] a t.0 v.1) next, omega (arith, v.3, ap length t.1), v.4)

pub free-requires : goal.free-requires
free-requires g c = let v = c.loop-i.invariant in all_gone c.loop-i.cells v.0 c.loop-i.i v.1 c.self.inside.end g.row.N v.2 v.3 v.4
    (omega (arith, c.loop-i-test.false))
