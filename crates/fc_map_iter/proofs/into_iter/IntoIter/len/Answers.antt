use Rattle.std.proofs.Common.{length, ap, ◌∙◌}
use Rattle.fc_map_iter.proofs.into_iter.IntoIter.len.Goals as goal

pub returns : goal.returns
returns g c = c.self.invariant ∙ ap length c.self.view_is
