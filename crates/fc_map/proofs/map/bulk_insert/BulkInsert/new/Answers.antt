use denote.Param.{param}
use Rattle.fc_tree_build.proofs.StackSizes.{growing_builder_fits}
use Rattle.fc_map.proofs.map.bulk_insert.BulkInsert.new.Goals as goal

pub new-requires : goal.new-requires
new-requires g c = growing_builder_fits (param 0 g.row.K) (param 1 g.row.V) g.row.A g.A.Allocator g.met.A.Handle.small
