use Rattle.std.proofs.Common.{◌≡◌, ◌++◌, ◌+◌, ◌-◌, ◌<◌, length, take, Some, sym, ◌∙◌, arith}
use Rattle.fc_tree_slots.specs.Cells.{row}
use Rattle.fc_tree_slots.proofs.Rows.{leave_holds, leave_done, enter_free, enter_done, cut_at}
use Rattle.fc_tree_slots.proofs.cells.Cells.carry.Goals as goal

pub take_from-item-requires : goal.take_from-item-requires
take_from-item-requires g c =
    let r = c.requires.source_laid in let i = c.loop-i.i in let j = i - c.args.to in (
      c.loop-i.invariant.4,
      (
        _,
        leave_holds r.0 r.1 r.2 j _ c.loop-i.sources.held (c.loop-i.invariant.0 r.0 r.1 r.2 (c.self.view_is ∙ r.3) r.4 r.5)
            (omega (arith, r.5)) (omega (arith, r.4)),
      ),
    )

pub set_from-requires : goal.set_from-requires
set_from-requires g c =
    let r = c.requires.source_laid in let s = c.requires.target_laid in let i = c.loop-i.i in let j = i - c.args.to in
    let free = enter_free s.0 r.1 s.1 s.2 j (c.args.end - i) i c.loop-i.targets.held
    (c.loop-i.invariant.1 r.0 r.1 s.0 s.1 r.2 s.2 (c.self.view_is ∙ r.3) r.4 r.5 (c.target.view_is ∙ s.3) s.4)
    (omega (arith, r.5)) (omega arith) (omega (arith, s.4)) in
    (c.loop-i.invariant.5, free.0, free.1)

pub loop-i-preserved : goal.loop-i-preserved
loop-i-preserved g c =
    let i = c.loop-i.i in let j = i - c.args.to in let v = c.loop-i.invariant in (
      λ xs ys m e long fits. leave_done xs ys m j (c.args.from + (i - c.args.to)) c.loop-i.sources.held (v.0 xs ys m e long fits) (omega arith) (omega arith)
          c.take_from-item.new.self.held (i + 1 - c.args.to) c.take_from-item.ensures.1 (omega arith),
      λ xs ys us vs m w e long fits f wide.
          let lt : j < length ys = omega arith in
          let got : Some (cut_at ys j lt).0 ≡ Some c.take_from-item.result =
          sym (leave_holds xs ys m j (c.args.from + (i - c.args.to)) c.loop-i.sources.held (v.0 xs ys m e long fits) lt (omega arith))
          ∙ c.take_from-item.ensures.0 in
          let same : (cut_at ys j lt).0 ≡ c.take_from-item.result = cc in
          enter_done us ys vs w j (c.args.end - i) i c.loop-i.targets.held (v.1 xs ys us vs m w e long fits f wide) lt (omega arith) (omega arith)
          c.set_from.new.self.held c.take_from-item.result (i + 1 - c.args.to) (c.args.end - (i + 1)) same c.set_from.ensures.0 (omega arith) (omega arith),
      omega (arith, v.2, c.add_moves.ensures.moves),
      c.add_moves.ensures.comparisons ∙ v.3,
      v.4 ∙ sym c.take_from-item.ensures.2,
      v.5 ∙ sym c.set_from.ensures.1,
      c.take_from-item.ensures.3 ∙ v.6,
      c.set_from.ensures.2 ∙ v.7,
    )

pub returns-clause-target : goal.returns-clause-target
returns-clause-target g c =
    let same : c.loop-i.i ≡ c.args.end = omega (arith, c.loop-i-test.false, c.loop-i.auto.i-end c.requires.in_order.0) in
    let none : c.args.end - c.loop-i.i ≡ 0 = omega arith in
    λ xs ys us vs m w e long fits f wide. c.loop-i.invariant.1 xs ys us vs m w (c.self.view_is ∙ e) long fits (c.target.view_is ∙ f) wide
    ∙ (λ d. row (us ++ take (same d - c.args.to) ys) (none d) vs w)

pub invariant_of-self : goal.invariant_of-self
invariant_of-self g c = c.loop-i.invariant.6 ∙ c.self.invariant

pub invariant_of-target : goal.invariant_of-target
invariant_of-target g c = c.loop-i.invariant.7 ∙ c.target.invariant
