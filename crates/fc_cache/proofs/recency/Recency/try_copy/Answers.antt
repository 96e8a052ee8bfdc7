use Rattle.std.proofs.Common.{reverse, subst, sym}
use Rattle.std.specs.List.{IsDistinct}
use Rattle.std.specs.Map.{keys_of}
use Rattle.fc_cache.proofs.Reversed.{distinct_reversed}
use Rattle.fc_cache.proofs.recency.Recency.try_copy.Goals as goal

pub push_copies-requires-clause-distinct : goal.push_copies-requires-clause-distinct
push_copies-requires-clause-distinct g c =
    subst (λ l. IsDistinct g.K.PartialEq.eq (keys_of (reverse l))) (sym c.iter.ensures.rest)
    (distinct_reversed g.met.K.Eq.laws c.in-Some.ring.entries c.len-known.ensures.valid.0)
