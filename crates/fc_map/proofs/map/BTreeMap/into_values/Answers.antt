use denote.Param.{param}
use Rattle.fc_map_iter.proofs.WalkSizes.{walk_fits, values_fit}
use Rattle.fc_map.proofs.map.BTreeMap.into_values.Goals as goal

pub into_iter-requires : goal.into_iter-requires
into_iter-requires g c = walk_fits (param 0 g.row.K) (param 1 g.row.V) g.row.A g.A.Allocator g.met.A.Handle.small

pub of-requires : goal.of-requires
of-requires g c = (
  walk_fits (param 0 g.row.K) (param 1 g.row.V) g.row.A g.A.Allocator g.met.A.Handle.small,
  values_fit (param 0 g.row.K) (param 1 g.row.V) g.row.A g.A.Allocator g.met.A.Handle.small,
)
