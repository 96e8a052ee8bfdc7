use Rattle.std.proofs.Common.{refl}
use Rattle.fc_set.specs.Operations.{union}
use Rattle.fc_set.proofs.StepFacts.{union_step, yields_first, stands_after}
use Rattle.fc_set.proofs.set.union.Union.next.Goals as goal

pub returns-clause-steps : goal.returns-clause-steps
returns-clause-steps g c =
    rw (← c.self.view_is) (yields_first g.T.Ord.cmp g.met.T.Ord.total (union g.T.Ord.cmp) c.or.result c.self.inside.sides.left c.self.inside.sides.right
    c.next.new.self refl
    (union_step g.T.Ord.cmp g.met.T.Ord.total c.next.result.0 c.next.result.1 c.or.result c.self.inside.sides.left c.self.inside.sides.right c.next.new.self
    c.or.ensures c.next.ensures.ours c.next.ensures.theirs c.next.ensures.firsts))

pub returns-clause-after : goal.returns-clause-after
returns-clause-after g c =
    rw (← c.self.view_is) (stands_after g.T.Ord.cmp g.met.T.Ord.total (union g.T.Ord.cmp) c.or.result c.self.inside.sides c.next.new.self
    (union_step g.T.Ord.cmp g.met.T.Ord.total c.next.result.0 c.next.result.1 c.or.result c.self.inside.sides.left c.self.inside.sides.right c.next.new.self
    c.or.ensures c.next.ensures.ours c.next.ensures.theirs c.next.ensures.firsts))
