use denote.Param.{param}
use Rattle.fc_tree_drain.proofs.Sizes.{drain_fits}
use Rattle.fc_map_iter.proofs.into_iter.IntoIter.drop.Goals as goal

pub drop-requires-room-T-Destruct : goal.drop-requires-room-T-Destruct
drop-requires-room-T-Destruct g c = λ κs within. drain_fits (param 0 g.row.K) (param 1 g.row.V) g.row.A g.A.Allocator g.met.A.Handle.small
