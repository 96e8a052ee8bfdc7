-- The laws of the four neighbour calls: the pair that one answers stands in the map, and on which side of what was asked.
-- A caller names one on a function, as `#[tactic(auto, using(fc_laws::proofs::Laws::last_at_or_before_there))]`, or cites it in an answer.
use Rattle.std.proofs.Common.{◌≡◌, true, List, Some, refl}
use Rattle.std.specs.Cmp.{IsTotalOrder}
use Rattle.std.specs.Ordering.{is_lt, is_le, is_gt, is_ge}
use Rattle.std.specs.declared.cmp.Ordering.{Ordering}
use Rattle.std.specs.declared.cmp.Ordering.TheVariants.{Less, Equal, Greater}
use Rattle.fc_base.specs.Ascending.{IsAscending}
use Rattle.fc_base.specs.Halves.{not_below}
use Rattle.fc_base.specs.Parts.{below, above, at}
use Rattle.fc_tree_search.specs.Neighbours.{first_item, last_item, not_above}
use Rattle.fc_laws.proofs.NeighbourLaws.{first_there, first_passes, last_there, last_passes}

is_less : (r : Ordering) → is_lt r ≡ true → r ≡ Less
is_less Less h = refl
is_less Equal h = absurd cc
is_less Greater h = absurd cc

is_greater : (r : Ordering) → is_gt r ≡ true → r ≡ Greater
is_greater Less h = absurd cc
is_greater Equal h = absurd cc
is_greater Greater h = refl

module _ {K Q V : Type 0} (cmp : K → K → Ordering) (order : K → Q → Ordering) (s : List (K × V)) (q : Q) (k : K) (v : V) where
  -- The pair that `first_at_or_after` answers stands in the map.
  pub first_at_or_after_there : IsTotalOrder cmp → IsAscending cmp s → first_item (not_below order s q) ≡ Some (k, v) → at cmp s k ≡ Some (k, v)
  first_at_or_after_there = first_there cmp (λ j. is_ge (order j q)) s (k, v)

  -- The pair that `first_after` answers stands in the map.
  pub first_after_there : IsTotalOrder cmp → IsAscending cmp s → first_item (above order s q) ≡ Some (k, v) → at cmp s k ≡ Some (k, v)
  first_after_there = first_there cmp (λ j. is_gt (order j q)) s (k, v)

  -- The pair that `last_at_or_before` answers stands in the map.
  pub last_at_or_before_there : IsTotalOrder cmp → IsAscending cmp s → last_item (not_above order s q) ≡ Some (k, v) → at cmp s k ≡ Some (k, v)
  last_at_or_before_there = last_there cmp (λ j. is_le (order j q)) s (k, v)

  -- The pair that `last_before` answers stands in the map.
  pub last_before_there : IsTotalOrder cmp → IsAscending cmp s → last_item (below order s q) ≡ Some (k, v) → at cmp s k ≡ Some (k, v)
  last_before_there = last_there cmp (λ j. is_lt (order j q)) s (k, v)

module _ {K Q V : Type 0} (order : K → Q → Ordering) (s : List (K × V)) (q : Q) (k : K) (v : V) where
  -- The key of the pair that `first_at_or_after` answers is not below what was asked.
  pub first_at_or_after_side : first_item (not_below order s q) ≡ Some (k, v) → is_ge (order k q) ≡ true
  first_at_or_after_side = first_passes (λ _ _. Equal) (λ j. is_ge (order j q)) s (k, v)

  -- The key of the pair that `first_after` answers is above what was asked.
  pub first_after_side : first_item (above order s q) ≡ Some (k, v) → order k q ≡ Greater
  first_after_side f = is_greater _ (first_passes (λ _ _. Equal) (λ j. is_gt (order j q)) s (k, v) f)

  -- The key of the pair that `last_at_or_before` answers is not above what was asked.
  pub last_at_or_before_side : last_item (not_above order s q) ≡ Some (k, v) → is_le (order k q) ≡ true
  last_at_or_before_side = last_passes (λ _ _. Equal) (λ j. is_le (order j q)) s (k, v)

  -- The key of the pair that `last_before` answers is below what was asked.
  pub last_before_side : last_item (below order s q) ≡ Some (k, v) → order k q ≡ Less
  last_before_side f = is_less _ (last_passes (λ _ _. Equal) (λ j. is_lt (order j q)) s (k, v) f)
