use Rattle.std.proofs.Common.{◌-◌, Some, refl, arith, length-set, set}
use Rattle.fc_tree_slots.proofs.Laid.{opened, packed, holds_at, value_at, written}
use Rattle.fc_tree_slots.proofs.slots.Slots.get_mut.Goals as goal

pub get_mut-requires : goal.get_mut-requires
get_mut-requires g c = let s = c.self.inside in let o = opened s _ c.self.invariant c.self.view_is in
    (_, holds_at c.args.self.now (g.row.N - s.len) s.cells c.args.index o.is c.requires)

pub invariant_of-self-lent : goal.invariant_of-self-lent
invariant_of-self-lent g c =
    let s = c.self.inside in let xs = c.args.self.now in let i = c.args.index in let o = opened s xs c.self.invariant c.self.view_is in
    λ w. (packed (set s.cells i (Some w)) (set xs i w) 0 (g.row.N - s.len) s.len g.row.N (written xs (g.row.N - s.len) s.cells i w o.is c.requires)
    (omega (arith, o.long, length-set xs i w)) (omega (arith, o.fits))).0

pub returns : goal.returns
returns g c =
    let s = c.self.inside in let xs = c.args.self.now in let i = c.args.index in let o = opened s xs c.self.invariant c.self.view_is in (
      (
        refl,
        λ w. (packed (set s.cells i (Some w)) (set xs i w) 0 (g.row.N - s.len) s.len g.row.N (written xs (g.row.N - s.len) s.cells i w o.is c.requires)
            (omega (arith, o.long, length-set xs i w)) (omega (arith, o.fits))).1,
      ),
      record {
        writes_back = tt;
        value = value_at xs (g.row.N - s.len) s.cells i c.get_mut.result.now o.is c.requires c.get_mut.ensures.value;
        fits =
            omega (arith, o.long, o.fits);
      },
    )
