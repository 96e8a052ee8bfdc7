use denote.Param.{param}
use Rattle.fc_map_iter.proofs.WalkSizes.{walk_fits}
use Rattle.fc_map_iter.proofs.OwnedFacts.{ended, went, last_given, last_fewer}
use Rattle.fc_map_iter.proofs.into_values.IntoValuesDoubleEndedIterator.next_back.Goals as goal

pub next_back-requires : goal.next_back-requires
next_back-requires g c = (walk_fits (param 0 g.row.K) (param 1 g.row.V) g.row.A g.A.Allocator g.met.A.Handle.small, tt)

pub returns-in_err-_key-clause-goes : goal.returns-in_err-_key-clause-goes
returns-in_err-_key-clause-goes g c = ended _ _ _ _ c.from_residual.ensures

pub returns-clause-steps : goal.returns-clause-steps
returns-clause-steps g c = last_given (λ p. p.1) c.self.inside.pairs c.next_back.new.self c.args.self.now
    (c.in_ok-_key._key, c.in_ok-_key.value) c.self.view_is c.in_ok-_key.ensures.steps

pub returns-clause-goes : goal.returns-clause-goes
returns-clause-goes g c =
    let fewer = last_fewer (λ p. p.1) c.self.inside.pairs c.next_back.new.self c.args.self.now
    (c.in_ok-_key._key, c.in_ok-_key.value) c.self.view_is c.in_ok-_key.ensures.steps in
    went _ (λ s. tt) _ _ _ fewer
