use Rattle.std.proofs.Common.{arith}
use denote.Param.{param}
use Rattle.fc_tree_drain.proofs.Sizes.{drain_fits}
use Rattle.fc_map_iter.proofs.into_iter.IntoIterIterator.next.Goals as goal

pub next-requires : goal.next-requires
next-requires g c =
    (drain_fits (param 0 g.row.K) (param 1 g.row.V) g.row.A g.A.Allocator g.met.A.Handle.small, omega arith)
