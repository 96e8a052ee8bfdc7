use Rattle.std.proofs.Common.{◌≡◌, ◌-◌, ◌+◌, [], suc, length, ap, ◌∙◌, arith}
use Rattle.fc_tree_slots.specs.Cells.{row}
use Rattle.fc_tree_slots.proofs.Rests.{rest_of, held_at, first_taken, packs_rest}
use Rattle.fc_tree_slots.proofs.rest.Rest.take_first.Goals as goal

pub take-item-requires : goal.take-item-requires
take-item-requires g c =
    let s = c.self.inside in let r = rest_of s _ c.self.invariant c.self.view_is in
    (_, held_at s.cells c.args.self.now s.start (g.row.N - s.end) 0 s.start r.is c.requires (omega arith))

pub invariant_of-self : goal.invariant_of-self
invariant_of-self g c =
    let s = c.self.inside in let r = rest_of s _ c.self.invariant c.self.view_is in let m = g.row.N - s.end in
    let next : suc s.start ≡ s.start + 1 = omega arith in
    let t = first_taken s.cells c.take-item.new.self c.args.self.now s.start m c.take-item.result r.is c.requires c.take-item.ensures.value
    c.take-item.ensures.cells in
    (packs_rest c.take-item.new.self t.0 m (s.start + 1) s.end g.row.N (t.2 ∙ ap (λ a. row [] a t.0 m) next) (omega (arith, r.long, ap length t.1))
    (omega (arith, r.fits))).0

pub returns : goal.returns
returns g c =
    let s = c.self.inside in let r = rest_of s _ c.self.invariant c.self.view_is in let m = g.row.N - s.end in
    let next : suc s.start ≡ s.start + 1 = omega arith in
    let t = first_taken s.cells c.take-item.new.self c.args.self.now s.start m c.take-item.result r.is c.requires c.take-item.ensures.value
    c.take-item.ensures.cells in
    let p = packs_rest c.take-item.new.self t.0 m (s.start + 1) s.end g.row.N (t.2 ∙ ap (λ a. row [] a t.0 m) next) (omega (arith, r.long, ap length t.1))
    (omega (arith, r.fits)) in
    cc (t.1, p.1)
