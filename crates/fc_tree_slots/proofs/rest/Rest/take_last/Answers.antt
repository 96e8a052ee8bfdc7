use Rattle.std.proofs.Common.{◌-◌, [], ◌∷◌, suc, length, ap, ◌∙◌, arith, length-append}
use Rattle.fc_tree_slots.proofs.Rests.{rest_of, last_held, last_taken, packs_rest}
use Rattle.fc_tree_slots.proofs.rest.Rest.take_last.Goals as goal

pub overflow_sub-self : goal.overflow_sub-self
overflow_sub-self g c = let r = rest_of c.self.inside _ c.self.invariant c.self.view_is in omega (arith, r.long, c.requires)

pub take-requires : goal.take-requires
take-requires g c =
    let s = c.self.inside in let r = rest_of s _ c.self.invariant c.self.view_is in
    last_held s.cells c.args.self.now s.start (g.row.N - s.end) (s.end - 1) r.is c.requires (omega (arith, r.long, c.requires))

pub invariant_of-self : goal.invariant_of-self
invariant_of-self g c =
    let s = c.self.inside in let r = rest_of s _ c.self.invariant c.self.view_is in let m = g.row.N - s.end in
    let t = last_taken s.cells c.take.new.self c.args.self.now s.start m (s.end - 1) c.take.result r.is c.requires (omega (arith, r.long, c.requires))
    c.take.ensures.value c.take.ensures.cells in
    let size = ap length t.1 ∙ length-append t.0 (c.take.result ∷ []) in
    (packs_rest c.take.new.self t.0 (suc m) s.start (s.end - 1) g.row.N t.2 (omega (arith, r.long, size)) (omega (arith, r.fits, r.long, c.requires))).0

pub returns : goal.returns
returns g c =
    let s = c.self.inside in let r = rest_of s _ c.self.invariant c.self.view_is in let m = g.row.N - s.end in
    let t = last_taken s.cells c.take.new.self c.args.self.now s.start m (s.end - 1) c.take.result r.is c.requires (omega (arith, r.long, c.requires))
    c.take.ensures.value c.take.ensures.cells in
    let size = ap length t.1 ∙ length-append t.0 (c.take.result ∷ []) in
    let p = packs_rest c.take.new.self t.0 (suc m) s.start (s.end - 1) g.row.N t.2 (omega (arith, r.long, size)) (omega (arith, r.fits, r.long, c.requires)) in
    cc (t.1, p.1)
