-- The laws of equality, order and hash at lists of pairs, from those of keys and values.
use Rattle.std.specs.Prelude.{◌≡◌, Bool, List, drop, Option}
use Rattle.std.proofs.Common.{ap}
use Rattle.std.specs.declared.cmp.Ordering.{Ordering}
use Rattle.std.specs.Ordering.{eq_by_cmp}
use Rattle.std.specs.Cmp.{IsPartialEquivalence, IsEquivalence, IsPartialOrder, IsTotalOrder, Agrees, on_per, and_per, on_equiv, and_equiv, on_po, then_po, on_total, then_total, then_agrees, both_tied}
use Rattle.std.specs.Cmp.Lexicographic.{pointwise, slice_cmp, slice_partial_cmp, lists_per, lists_equiv, lists_po, lists_total, lists_agrees, lists_ties}
use Rattle.std.specs.Hash.{HashWrites, Alike, on_Alike, and-Alike, items_Alike}
use Rattle.std.specs.List.{flat_map}
use Rattle.fc_map.specs.Compare.{pair_eq, pair_cmp, pair_partial_cmp, pair_input}

module _ {K V : Type 0} where
  pub pairs_per : {E : K → K → Bool} {F : V → V → Bool} → IsPartialEquivalence E → IsPartialEquivalence F → IsPartialEquivalence (pointwise (pair_eq E F))
  pairs_per a b = lists_per (and_per (on_per (λ p. p.0) a) (on_per (λ p. p.1) b))

  pub pairs_equiv : {E : K → K → Bool} {F : V → V → Bool} → IsEquivalence E → IsEquivalence F → IsEquivalence (pointwise (pair_eq E F))
  pairs_equiv a b = lists_equiv (and_equiv (on_equiv (λ p. p.0) a) (on_equiv (λ p. p.1) b))

  pub pairs_po : {E : K → K → Bool} {F : V → V → Bool} {C : K → K → Option Ordering} {D : V → V → Option Ordering} → IsPartialOrder E C → IsPartialOrder F D → IsPartialOrder (pointwise (pair_eq E F)) (slice_partial_cmp (pair_partial_cmp C D))
  pairs_po a b = lists_po (then_po (on_po (λ p. p.0) a) (on_po (λ p. p.1) b))

  pub pairs_total : {R : K → K → Ordering} {S : V → V → Ordering} → IsTotalOrder R → IsTotalOrder S → IsTotalOrder (slice_cmp (pair_cmp R S))
  pairs_total a b = lists_total (then_total (on_total (λ p. p.0) a) (on_total (λ p. p.1) b))

  pub pairs_agree : {C : K → K → Option Ordering} {D : V → V → Option Ordering} {R : K → K → Ordering} {S : V → V → Ordering} → Agrees C R → Agrees D S → Agrees (slice_partial_cmp (pair_partial_cmp C D)) (slice_cmp (pair_cmp R S))
  pairs_agree a b = lists_agrees (then_agrees (λ p q. a p.0 q.0) (λ p q. b p.1 q.1))

  pub pairs_tie : {E : K → K → Bool} {F : V → V → Bool} (R : K → K → Ordering) (S : V → V → Ordering) → ((x y : K) → E x y ≡ eq_by_cmp R x y) → ((x y : V) → F x y ≡ eq_by_cmp S x y) → (s t : List (K × V)) → pointwise (pair_eq E F) s t ≡ eq_by_cmp (slice_cmp (pair_cmp R S)) s t
  pairs_tie R S a b = lists_ties (pair_cmp R S) (λ p q. both_tied _ _ (R p.0 q.0) (S p.1 q.1) (a p.0 q.0) (b p.1 q.1))

  -- Equal lists feed the same: `items_Alike` says so with the length first.
  pub pairs_Alike : {E : K → K → Bool} {D : V → V → Bool} {F : K → HashWrites} {G : V → HashWrites} → Alike E F → Alike D G → Alike (pointwise (pair_eq E D)) (flat_map (pair_input F G))
  pairs_Alike a b = record { fed = λ s t h. ap (drop 1) ((items_Alike (and-Alike (on_Alike (λ p. p.0) a) (on_Alike (λ p. p.1) b))).fed s t h) }
