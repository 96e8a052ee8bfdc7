use Rattle.std.proofs.Common.{◌-◌}
use Rattle.fc_tree_slots.proofs.Laid.{opened, holds_at, value_at}
use Rattle.fc_tree_slots.proofs.slots.Slots.get.Goals as goal

pub get-requires : goal.get-requires
get-requires g c = let s = c.self.inside in let o = opened s _ c.self.invariant c.self.view_is in
    (_, holds_at c.args.self.now (g.row.N - s.len) s.cells c.args.index o.is c.requires)

pub returns : goal.returns
returns g c = let s = c.self.inside in let o = opened s _ c.self.invariant c.self.view_is in
    value_at c.args.self.now (g.row.N - s.len) s.cells c.args.index c.get.result.now o.is c.requires c.get.ensures
