use denote.Param.{param}
use Rattle.fc_map_iter.proofs.WalkSizes.{walk_fits}
use Rattle.fc_map_iter.proofs.into_keys.IntoKeys.drop.Goals as goal

pub drop-requires : goal.drop-requires
drop-requires g c = walk_fits (param 0 g.row.K) (param 1 g.row.V) g.row.A g.A.Allocator g.met.A.Handle.small
