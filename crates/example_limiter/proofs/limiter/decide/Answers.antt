use Rattle.std.proofs.Common.{◌∙◌, ap, filter, rules}
use Rattle.std.proofs.lemmas.Fn.{filter_same}
use Rattle.example_limiter.specs.Decided.{is_recent}
use Rattle.example_limiter.proofs.limiter.decide.Goals as goal

pub returns-then-len-limit-clause-decided : goal.returns-then-len-limit-clause-decided
returns-then-len-limit-clause-decided c =
    let test = is_recent c.args.window c.args.now in
    let left = filter_same _ test _ (λ x b f' k. search rules) _ _ c.retain.ensures.filtered ∙ ap (λ times. filter test times) c.in_ok-reserve.ensures.items in
    (rw (← left) (search rules), left)

pub returns-clause-decided : goal.returns-clause-decided
returns-clause-decided c =
    let test = is_recent c.args.window c.args.now in
    let left = filter_same _ test _ (λ x b f' k. search rules) _ _ c.retain.ensures.filtered ∙ ap (λ times. filter test times) c.in_ok-reserve.ensures.items in
    rw (← left) (search rules)
