use Rattle.std.proofs.Common.{length, ap, ◌∙◌}
use Rattle.fc_timers.proofs.queue.iter.IterExactSizeIterator.len.Goals as goal

pub returns-clause-value : goal.returns-clause-value
returns-clause-value g c = c.self.invariant.counted ∙ ap length c.self.view_is
