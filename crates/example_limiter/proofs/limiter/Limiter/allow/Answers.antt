use Rattle.std.proofs.Common.{◌∙◌, Some, ap}
use Rattle.std.proofs.lemmas.Result.{on_err_weaker}
use Rattle.example_limiter.specs.Decided.{times_of}
use Rattle.example_limiter.proofs.WrittenFacts.{on_ok, other_kept, all_kept}
use Rattle.example_limiter.proofs.limiter.Limiter.allow.Goals as goal

pub returns-in-Some-clause-others : goal.returns-in-Some-clause-others
returns-in-Some-clause-others c =
    rw (← c.self.view_is) (on_ok c.decide.result (λ q differs. ap times_of
    (other_kept c.self.inside.clients.pairs _ c.args.client c.decide.new.times (c.in-Some.ensures.values c.decide.new.times) q differs)))

pub returns-in-Some-clause-unchanged : goal.returns-in-Some-clause-unchanged
returns-in-Some-clause-unchanged c =
    rw (← c.self.view_is) (
    on_err_weaker c.decide.result (λ same q. ap times_of (all_kept c.self.inside.clients.pairs _ c.args.client c.decide.new.times
    (c.in-Some.ensures.values c.decide.new.times) (ap Some same ∙ c.in-Some.ensures.value) q))
    c.decide.ensures.unchanged)
