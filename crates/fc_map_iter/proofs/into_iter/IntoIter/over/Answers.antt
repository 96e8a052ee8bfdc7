use Rattle.std.proofs.Common.{length, ap, ◌∙◌, sym}
use denote.Param.{param}
use Rattle.fc_tree_drain.proofs.Sizes.{drain_fits}
use Rattle.fc_map_iter.proofs.into_iter.IntoIter.over.Goals as goal

pub over-requires : goal.over-requires
over-requires g c = (drain_fits (param 0 g.row.K) (param 1 g.row.V) g.row.A g.A.Allocator g.met.A.Handle.small, c.requires.sound)

pub invariant_of-result : goal.invariant_of-result
invariant_of-result g c = c.requires.all ∙ sym (ap length c.over.ensures)
