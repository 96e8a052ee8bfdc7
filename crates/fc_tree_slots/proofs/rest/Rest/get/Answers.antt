use Rattle.std.proofs.Common.{◌-◌, refl, arith}
use Rattle.fc_tree_slots.proofs.Rests.{rest_of, held_at, value_of}
use Rattle.fc_tree_slots.proofs.rest.Rest.get.Goals as goal

pub overflow_add-self-inside : goal.overflow_add-self-inside
overflow_add-self-inside g c = let r = rest_of c.self.inside _ c.self.invariant c.self.view_is in
    record { fits = omega (arith, r.long, r.fits, c.requires, g.N.fits) }

pub get-requires : goal.get-requires
get-requires g c =
    let s = c.self.inside in let r = rest_of s _ c.self.invariant c.self.view_is in
    (_, held_at s.cells c.args.self.now s.start (g.row.N - s.end) c.args.index _ r.is c.requires refl)

pub returns : goal.returns
returns g c =
    let s = c.self.inside in let r = rest_of s _ c.self.invariant c.self.view_is in
    value_of s.cells c.args.self.now s.start (g.row.N - s.end) c.args.index _ c.get.result.now r.is c.requires refl c.get.ensures
