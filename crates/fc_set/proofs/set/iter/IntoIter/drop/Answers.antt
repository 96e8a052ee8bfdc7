use denote.Builtin.{unit}
use denote.Param.{param}
use Rattle.fc_map_iter.proofs.WalkSizes.{walk_fits}
use Rattle.fc_set.proofs.set.iter.IntoIter.drop.Goals as goal

pub drop-requires : goal.drop-requires
drop-requires g c = walk_fits (param 0 g.row.T) unit g.row.A g.A.Allocator g.met.A.Handle.small
