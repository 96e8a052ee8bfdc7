use denote.Param.{param}
use Rattle.fc_map_iter.proofs.WalkSizes.{walk_fits}
use Rattle.fc_map_iter.proofs.into_keys.debug.IntoKeysDebug.fmt.Goals as goal

pub field-requires-room-T-Debug : goal.field-requires-room-T-Debug
field-requires-room-T-Debug g c = λ κs within. walk_fits (param 0 g.row.K) (param 1 g.row.V) g.row.A g.A.Allocator g.met.A.Handle.small
