use Rattle.std.proofs.Common.{rules}
use Rattle.fc_tree_slots.proofs.Rests.{rest_of, emptied}
use Rattle.fc_tree_slots.proofs.rest.Rest.into_slots.Goals as goal

pub over-requires : goal.over-requires
over-requires g c =
    let s = c.self.inside in
    let r = rest_of s _ c.self.invariant c.self.view_is in
    (search rules, emptied s.cells c.args.self s.start s.end g.row.N r.is r.long r.fits c.requires)
