use Rattle.std.proofs.Common.{◌∙◌}
use denote.Builtin.{unit}
use denote.Param.{param}
use Rattle.fc_map_iter.proofs.WalkSizes.{walk_fits}
use Rattle.fc_map_iter.proofs.OwnedFacts.{many}
use Rattle.fc_set.proofs.set.iter.IntoIter.len.Goals as goal

pub len-requires : goal.len-requires
len-requires g c = walk_fits (param 0 g.row.T) unit g.row.A g.A.Allocator g.met.A.Handle.small

pub returns : goal.returns
returns g c = c.len.ensures ∙ many (λ e. e.0) c.self.inside.pairs c.args.self.now c.self.view_is
