use Rattle.std.proofs.Common.{◌≡◌, ℕ, length, ap, ◌∙◌, arith, Some}
use Rattle.fc_map_iter.proofs.into_iter.IntoIterIterator.size_hint.Goals as goal

pub returns-clause-lower : goal.returns-clause-lower
returns-clause-lower g c = let all : c.self.inside.left ≡ length c.args.self.now = c.self.invariant ∙ ap length c.self.view_is in λ _. omega arith

pub returns-clause-upper : goal.returns-clause-upper
returns-clause-upper g c = let all : c.self.inside.left ≡ length c.args.self.now = c.self.invariant ∙ ap length c.self.view_is in (tt, omega arith)

pub returns-clause-exact : goal.returns-clause-exact
returns-clause-exact g c = ap (λ (n : ℕ). (n, Some n)) (c.self.invariant ∙ ap length c.self.view_is)
