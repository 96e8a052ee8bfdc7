use Rattle.fc_intervals.proofs.Laws.{numbers_outside}
use Rattle.example_intervals.proofs.put.Goals as goal

pub returns-clause-outside : goal.returns-clause-outside
returns-clause-outside c = numbers_outside _ (λ x y e. e) _ _ _ _ _ c.in_ok-try_put.ensures.written
