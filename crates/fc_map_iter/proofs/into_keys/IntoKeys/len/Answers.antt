use Rattle.std.proofs.Common.{◌∙◌}
use denote.Param.{param}
use Rattle.fc_map_iter.proofs.WalkSizes.{walk_fits}
use Rattle.fc_map_iter.proofs.OwnedFacts.{many}
use Rattle.fc_map_iter.proofs.into_keys.IntoKeys.len.Goals as goal

pub len-requires : goal.len-requires
len-requires g c = walk_fits (param 0 g.row.K) (param 1 g.row.V) g.row.A g.A.Allocator g.met.A.Handle.small

pub returns : goal.returns
returns g c = c.len.ensures ∙ many (λ p. p.0) c.self.inside.pairs c.args.self.now c.self.view_is
