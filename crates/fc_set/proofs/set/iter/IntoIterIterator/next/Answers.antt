use denote.Builtin.{unit}
use denote.Param.{param}
use Rattle.fc_map_iter.proofs.WalkSizes.{walk_fits}
use Rattle.fc_map_iter.proofs.OwnedFacts.{ended}
use Rattle.fc_set.proofs.set.iter.IntoIterIterator.next.Goals as goal

pub next-requires : goal.next-requires
next-requires g c = (walk_fits (param 0 g.row.T) unit g.row.A g.A.Allocator g.met.A.Handle.small, tt)

pub returns-in_err-item-clause-goes : goal.returns-in_err-item-clause-goes
returns-in_err-item-clause-goes g c = ended _ _ _ _ c.from_residual.ensures
