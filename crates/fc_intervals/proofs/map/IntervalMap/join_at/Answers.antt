use Rattle.std.proofs.Common.{◌≡◌, true, subst}
use Rattle.fc_map.specs.Entries.{entries}
use Rattle.fc_intervals.specs.Joined.{IsJoined}
use Rattle.fc_intervals.specs.Stretches.{IsKept, value_at_point}
use Rattle.fc_intervals.proofs.Joined.{apart_after, joined_by, values_after}
use Rattle.fc_intervals.proofs.map.IntervalMap.join_at.Given as given
use Rattle.fc_intervals.proofs.map.IntervalMap.join_at.Goals as goal
use Rattle.fc_intervals.proofs.map.IntervalMap.join_at.Goals.{After-draw_out}

-- the two stretches are one
joined : (g : given.Over) (c : After-draw_out g) → IsJoined g.K.Ord.cmp g.V.PartialEq.eq c.args.at (entries c.self.inside.map) (entries c.draw_out.new.map)
joined g c =
    let pair = c.in-Some.ensures.joint in
    joined_by g.K.Ord.cmp g.met.K.Ord.total g.V.PartialEq.eq c.args.at (entries c.self.inside.map) c.self.invariant (entries c.remove.new.self)
    (entries c.draw_out.new.map) pair.0 pair.1 c.in-Some.end pair.2 c.remove.ensures.rest pair.3 c.draw_out.ensures.ended

pub invariant_of-self : goal.invariant_of-self
invariant_of-self g c = apart_after g.K.Ord.cmp g.met.K.Ord.total g.V.PartialEq.eq c.args.at (entries c.self.inside.map) c.self.invariant _ (joined g c)

pub returns-clause-joined : goal.returns-clause-joined
returns-clause-joined g c = λ _.
    subst (λ s. IsJoined g.K.Ord.cmp g.V.PartialEq.eq c.args.at s (entries c.draw_out.new.map)) c.self.view_is (joined g c)

pub returns-clause-values : goal.returns-clause-values
returns-clause-values g c = λ p.
    subst (λ s. IsKept (λ x w. g.V.PartialEq.eq w x ≡ true) (value_at_point g.K.Ord.cmp s p) (value_at_point g.K.Ord.cmp (entries c.draw_out.new.map) p))
    c.self.view_is
    (values_after g.K.Ord.cmp g.met.K.Ord.total g.V.PartialEq.eq c.args.at (entries c.self.inside.map) c.self.invariant _ (joined g c) p)
