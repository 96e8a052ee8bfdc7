-- Which stretches have a point in common with a range that is open at an end.
use Rattle.std.proofs.Common.{◌≡◌, Bool, true, false, List, Option, Some, None, refl, sym, ap, ◌∙◌}
use Rattle.std.specs.Prelude.{◌&&◌}
use Rattle.std.specs.Cmp.{IsTotalOrder}
use Rattle.std.specs.Ordering.{is_ge, is_lt}
use Rattle.std.specs.declared.cmp.Ordering.{Ordering}
use Rattle.std.specs.declared.ops.Bound.TheVariants.{Included, Unbounded}
use Rattle.fc_base.specs.Ranges.{within}
use Rattle.fc_base.proofs.AscendingFacts.{all_map}
use Rattle.fc_intervals.specs.Open.{overlapping_from}
use Rattle.fc_intervals.specs.declared.stretch.Stretch.{Stretch}
use Rattle.fc_intervals.proofs.Walks.{Begins, kept_alike}

and_true : (b : Bool) → (b && true) ≡ b
and_true true = refl
and_true false = refl

-- from where the walk begins on, those are that overlap
pub walked_on : {K V : Type 0} (cmp : K → K → Ordering) (o : IsTotalOrder cmp) (from first : K) (s : List (K × Stretch K V)) → Begins cmp o from first s
    → within cmp (Included first) Unbounded s ≡ overlapping_from cmp s from
walked_on cmp o from first s begins = kept_alike _ _ s (all_map _ _ (λ e h. and_true (is_ge (cmp e.0 first)) ∙ h) s begins)
