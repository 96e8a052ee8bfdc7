use Rattle.std.proofs.Common.{sym, ◌+◌, ◌-◌, ◌∙◌, arith}
use Rattle.fc_tree_slots.proofs.Rows.{down_ready, down_done}
use Rattle.fc_tree_slots.proofs.cells.Cells.shift_down.Goals as goal

pub move_within-requires : goal.move_within-requires
move_within-requires g c =
    let r = c.requires.laid in let v = c.loop-i.invariant in
    let ready = down_ready r.0 r.1 c.args.by r.2 c.loop-i.i (c.args.from - c.args.by + c.args.by + c.loop-i.i) (c.args.from - c.args.by + 0 + c.loop-i.i)
    c.loop-i.places.held (v.0 r.0 r.1 r.2 (c.self.view_is ∙ r.3) r.4 r.5) (omega (arith, r.5, c.loop-i-test.true)) (omega (arith, r.4)) (omega (arith, r.4)) in
    (v.3, ready.0, ready.1, ready.2)

pub loop-i-preserved : goal.loop-i-preserved
loop-i-preserved g c =
    let i = c.loop-i.i in let v = c.loop-i.invariant in (
      λ xs ys m e long fits. down_done xs ys c.args.by m i (c.args.from - c.args.by + c.args.by + i) (c.args.from - c.args.by + 0 + i) c.loop-i.places.held
          (v.0 xs ys m e long fits) (omega (arith, c.loop-i-test.true)) (omega arith) (omega arith)
          c.move_within.new.self.held (i + 1) c.move_within.ensures.0 (omega arith),
      omega (arith, v.1, c.add_moves.ensures.moves),
      c.add_moves.ensures.comparisons ∙ v.2,
      v.3 ∙ sym c.move_within.ensures.1,
      c.move_within.ensures.2 ∙ v.4,
    )

pub invariant_of-self : goal.invariant_of-self
invariant_of-self g c = c.loop-i.invariant.4 ∙ c.self.invariant
