use denote.Builtin.{unit}
use denote.Param.{param}
use Rattle.fc_map_iter.proofs.WalkSizes.{walk_fits}
use Rattle.fc_map_iter.proofs.OwnedFacts.{ended, went, last_given, last_fewer}
use Rattle.fc_set.proofs.set.iter.IntoIterDoubleEndedIterator.next_back.Goals as goal

pub next_back-requires : goal.next_back-requires
next_back-requires g c = (walk_fits (param 0 g.row.T) unit g.row.A g.A.Allocator g.met.A.Handle.small, tt)

pub returns-in_err-item-clause-goes : goal.returns-in_err-item-clause-goes
returns-in_err-item-clause-goes g c = ended _ _ _ _ c.from_residual.ensures

pub returns-clause-steps : goal.returns-clause-steps
returns-clause-steps g c =
    let left = c.next_back.new.self in
    last_given (λ e. e.0) c.self.inside.pairs left c.args.self.now (c.in_ok-item.item, c.in_ok-item._nothing) c.self.view_is c.in_ok-item.ensures.steps

pub returns-clause-goes : goal.returns-clause-goes
returns-clause-goes g c =
    let left = c.next_back.new.self in
    let fewer = last_fewer (λ e. e.0) c.self.inside.pairs left c.args.self.now
    (c.in_ok-item.item, c.in_ok-item._nothing) c.self.view_is c.in_ok-item.ensures.steps in
    went _ (λ s. tt) _ _ _ fewer
