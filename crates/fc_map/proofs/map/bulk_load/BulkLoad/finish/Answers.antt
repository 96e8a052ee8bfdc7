use denote.Param.{param}
use Rattle.fc_map.proofs.BulkInsertSizes.{bulk_insert_fits}
use Rattle.fc_map.proofs.map.bulk_load.BulkLoad.finish.Goals as goal

pub finish-requires : goal.finish-requires
finish-requires g c = bulk_insert_fits (param 0 g.row.K) (param 1 g.row.V) g.row.A g.K.Ord g.K.PartialEq g.K.PartialOrd g.A.Allocator g.met.A.Handle.small
