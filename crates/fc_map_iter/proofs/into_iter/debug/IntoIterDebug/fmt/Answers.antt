use denote.Param.{param}
use Rattle.fc_tree_drain.proofs.Sizes.{nodes_fit, drain_fits}
use Rattle.fc_map_iter.proofs.into_iter.debug.IntoIterDebug.fmt.Goals as goal

pub parts-requires : goal.parts-requires
parts-requires g c = (
  drain_fits (param 0 g.row.K) (param 1 g.row.V) g.row.A g.A.Allocator g.met.A.Handle.small,
  nodes_fit (param 0 g.row.K) (param 1 g.row.V) g.row.A g.A.Allocator g.met.A.Handle.small,
)

pub list_front-requires : goal.list_front-requires
list_front-requires g c = nodes_fit (param 0 g.row.K) (param 1 g.row.V) g.row.A g.A.Allocator g.met.A.Handle.small

pub list_back-requires : goal.list_back-requires
list_back-requires g c = nodes_fit (param 0 g.row.K) (param 1 g.row.V) g.row.A g.A.Allocator g.met.A.Handle.small
