use Rattle.std.specs.List.{IsDistinct}
use Rattle.fc_cache.proofs.Reversed.{distinct_reversed}
use Rattle.fc_cache.proofs.recency.Recency.len.Goals as goal

pub returns-in-Some-clause-distinct : goal.returns-in-Some-clause-distinct
returns-in-Some-clause-distinct g c =
    rw (← c.self.view_is, c.in-Some.is) (distinct_reversed g.met.K.Eq.laws c.in-Some.ring.entries c.len.ensures.valid.0)

pub returns-in-None-clause-distinct : goal.returns-in-None-clause-distinct
unfolding IsDistinct
returns-in-None-clause-distinct g c = rw (← c.self.view_is, c.in-None.is) tt
