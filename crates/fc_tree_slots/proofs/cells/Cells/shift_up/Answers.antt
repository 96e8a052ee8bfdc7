use Rattle.std.proofs.Common.{sym, ◌≡◌, ◌+◌, ◌-◌, suc, take, drop, ◌∙◌, arith}
use Rattle.fc_tree_slots.specs.Cells.{row}
use Rattle.fc_tree_slots.proofs.Rows.{up_ready, up_done}
use Rattle.fc_tree_slots.proofs.cells.Cells.shift_up.Goals as goal

pub move_within-requires : goal.move_within-requires
move_within-requires g c =
    let r = c.requires.laid in let v = c.loop-i.invariant in let i = c.loop-i.i - 1 in let j = c.args.from + i in
    let next : c.args.from + c.loop-i.i ≡ suc j = omega arith in
    let is = v.0 r.0 r.1 (c.self.view_is ∙ r.2) r.3 ∙ (λ d. row (take (next d) r.0) c.args.by (drop (next d) r.0) r.1) in
    let ready = up_ready r.0 c.args.by r.1 j (c.args.from + 0 + i) (c.args.from + c.args.by + i) c.loop-i.places.held is (omega (arith, r.3)) (omega arith)
    (omega arith) in
    (v.3, ready.0, ready.1, ready.2)

pub loop-i-preserved : goal.loop-i-preserved
loop-i-preserved g c =
    let v = c.loop-i.invariant in let i = c.loop-i.i - 1 in let j = c.args.from + i in
    let next : c.args.from + c.loop-i.i ≡ suc j = omega arith in (
      λ zs m e long. up_done zs c.args.by m j (c.args.from + 0 + i) (c.args.from + c.args.by + i) c.loop-i.places.held
          (v.0 zs m e long ∙ (λ d. row (take (next d) zs) c.args.by (drop (next d) zs) m)) (omega arith) (omega arith) (omega arith)
          c.move_within.new.self.held c.move_within.ensures.0,
      omega (arith, v.1, c.add_moves.ensures.moves),
      c.add_moves.ensures.comparisons ∙ v.2,
      v.3 ∙ sym c.move_within.ensures.1,
      c.move_within.ensures.2 ∙ v.4,
    )

pub invariant_of-self : goal.invariant_of-self
invariant_of-self g c = c.loop-i.invariant.4 ∙ c.self.invariant
