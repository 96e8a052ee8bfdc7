use Rattle.std.proofs.Common.{length, ap, ◌∙◌}
use Rattle.fc_map_iter.proofs.into_iter.IntoIterExactSizeIterator.len.Goals as goal

pub returns-clause-value : goal.returns-clause-value
returns-clause-value g c = c.self.invariant ∙ ap length c.self.view_is
