use Rattle.std.proofs.Common.{◌≡◌, length, Some, ap, ◌∙◌, arith}
use Rattle.fc_timers.proofs.queue.iter.IterIterator.size_hint.Goals as goal

pub returns-clause-lower : goal.returns-clause-lower
returns-clause-lower g c = omega (arith, c.self.invariant.counted ∙ ap length c.self.view_is)

pub returns-clause-upper : goal.returns-clause-upper
returns-clause-upper g c = (tt, omega (arith, c.self.invariant.counted ∙ ap length c.self.view_is))

pub returns-clause-exact : goal.returns-clause-exact
returns-clause-exact g c =
    let is : c.self.inside.left ≡ length c.args.self.now = c.self.invariant.counted ∙ ap length c.self.view_is in
    λ i. (is i, Some (is i))
