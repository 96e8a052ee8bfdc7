-- Items that are a key and an id, ordered by the keys and then by the ids, stand before an edge of a key or after it.
use Rattle.std.proofs.Common.{◌≡◌, Bool, true, false, cond, ap, sym, ◌∙◌, refl}
use Rattle.std.specs.Cmp.{IsTotalOrder}
use Rattle.std.specs.Ordering.{ordering_then, ordering_reverse}
use Rattle.std.specs.declared.cmp.Ordering.{Ordering}
use Rattle.std.specs.declared.cmp.Ordering.TheVariants.{Less, Equal, Greater}
use Rattle.fc_base.specs.Query.{IsQueryOrder}
use Rattle.fc_base.specs.Viewed.{over_one}

-- After an edge that is before its key's items.
abbrev side : Bool → Ordering
side before = cond before Greater Less

module _ {K I : Type 0} (cmp : K → K → Ordering) (ids : I → I → Ordering) where
  -- no pair stands at an edge
  never : (o : Ordering) (b : Bool) → ordering_then o (side b) ≡ Equal → ⊥
  never Less b h = absurd cc
  never Equal true h = absurd cc
  never Equal false h = absurd cc
  never Greater b h = absurd cc

  module _ (total : IsTotalOrder cmp) (q : K × Bool) (x y : K × I) where
    below_both : (o p : Ordering) → cmp x.0 y.0 ≡ o → cmp y.0 q.0 ≡ p → ordering_then o (ids x.1 y.1) ≡ Less → ordering_then p (side q.1) ≡ Less
        → ordering_then (cmp x.0 q.0) (side q.1) ≡ Less
    below_both Less Less i j l e = rw (total.trans x.0 y.0 q.0 i j) refl
    below_both Less Equal i j l e =
        let f : cmp x.0 q.0 ≡ Less = total.antisymm x.0 q.0 ∙ ap ordering_reverse (sym (total.congr y.0 q.0 x.0 j) ∙ over_one cmp total x.0 y.0 i) in
        rw f refl
    below_both Less Greater i j l e = absurd cc
    below_both Equal p i j l e = ap (λ o. ordering_then o (side q.1)) (total.congr x.0 y.0 q.0 i ∙ j) ∙ e
    below_both Greater p i j l e = absurd cc

    above_both : (o p : Ordering) → cmp x.0 y.0 ≡ o → cmp x.0 q.0 ≡ p → ordering_then o (ids x.1 y.1) ≡ Less → ordering_then p (side q.1) ≡ Greater
        → ordering_then (cmp y.0 q.0) (side q.1) ≡ Greater
    above_both Less Less i j l g = absurd cc
    above_both Less Equal i j l g =
        let f : cmp y.0 q.0 ≡ Greater = total.antisymm y.0 q.0 ∙ ap ordering_reverse (sym (total.congr x.0 q.0 y.0 j) ∙ i) in
        rw f refl
    above_both Less Greater i j l g =
        let f : cmp y.0 q.0 ≡ Greater = over_one cmp total q.0 y.0 (total.trans q.0 x.0 y.0 (total.antisymm q.0 x.0 ∙ ap ordering_reverse j) i) in
        rw f refl
    above_both Equal p i j l g = ap (λ o. ordering_then o (side q.1)) (sym (total.congr x.0 y.0 q.0 i) ∙ j) ∙ g
    above_both Greater p i j l g = absurd cc

  -- The pairs before an edge come first, then those after it.
  pub edges_fit : IsTotalOrder cmp → IsQueryOrder (λ (x y : K × I). ordering_then (cmp x.0 y.0) (ids x.1 y.1))
      (λ (x : K × I) (edge : K × Bool). ordering_then (cmp x.0 edge.0) (side edge.1))
  edges_fit total = record {
    same = λ q x y e. absurd (never (cmp x.0 q.0) q.1 e);
    lower = λ q x y l e. below_both total q x y (cmp x.0 y.0) (cmp y.0 q.0) refl refl l e;
    after = λ q x y l e. absurd (never (cmp x.0 q.0) q.1 e);
    upper = λ q x y l g. above_both total q x y (cmp x.0 y.0) (cmp x.0 q.0) refl refl l g;
  }
