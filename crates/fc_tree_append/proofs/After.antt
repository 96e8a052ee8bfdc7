-- Two ascending lists, of which one lies after the other.
use Rattle.std.proofs.Common.{◌≡◌, ℕ, zero, suc, ◌+◌, List, [], ◌∷◌, ◌++◌, length, slice_get, Some, sym, ap, ◌∙◌, arith}
use Rattle.std.specs.List.{AllByRecursion}
use Rattle.std.specs.Cmp.{IsTotalOrder}
use Rattle.std.specs.declared.cmp.Ordering.{Ordering}
use Rattle.std.specs.declared.cmp.Ordering.TheVariants.{Less}
use Rattle.fc_base.specs.Ascending.{IsAscending}
use Rattle.fc_base.proofs.AscendingFacts.{all_map}
use Rattle.fc_tree_node.proofs.Lists.{all_both}

module _ {K V : Type 0} (cmp : K → K → Ordering) (total : IsTotalOrder cmp) where
  -- a key that lies before the first one lies before all
  before_all : (x first : K × V) (t : List (K × V)) → slice_get t 0 ≡ Some first → cmp x.0 first.0 ≡ Less → IsAscending cmp t
      → AllByRecursion (λ y. cmp x.0 y.0 ≡ Less) t
  before_all x first [] e h a = absurd (cc e)
  before_all x first (y ∷ t) e h a =
      let q : first ≡ y = cc e in
      let l : cmp x.0 y.0 ≡ Less = ap (λ z. cmp x.0 z.0) (sym q) ∙ h in
      (l, all_map _ _ (λ z m. total.trans x.0 y.0 z.0 l m) t a.0)

  pub both_ascend : (i : ℕ) (s t : List (K × V)) (last first : K × V) → i + 1 ≡ length s → slice_get s i ≡ Some last → slice_get t 0 ≡ Some first
      → cmp last.0 first.0 ≡ Less → IsAscending cmp s → IsAscending cmp t → IsAscending cmp (s ++ t)
  both_ascend i [] t last first n e f h a b = absurd (omega arith)
  both_ascend zero (x ∷ []) t last first n e f h a b =
      let q : last ≡ x = cc e in
      (before_all x first t f (ap (λ z. cmp z.0 first.0) (sym q) ∙ h) b, b)
  both_ascend (suc i) (x ∷ []) t last first n e f h a b = absurd (omega arith)
  both_ascend zero (x ∷ y ∷ s) t last first n e f h a b = absurd (omega arith)
  both_ascend (suc i) (x ∷ y ∷ s) t last first n e f h a b =
      let r = both_ascend i (y ∷ s) t last first (omega arith) e f h a.1 b in
      let l = a.0.0 in
      ((l, all_both (λ z. cmp x.0 z.0 ≡ Less) s t a.0.1 (all_back_of x y s t l r.0)), r)
    where
      all_back_of : (x y : K × V) (s t : List (K × V)) → cmp x.0 y.0 ≡ Less → AllByRecursion (λ z. cmp y.0 z.0 ≡ Less) (s ++ t)
          → AllByRecursion (λ z. cmp x.0 z.0 ≡ Less) t
      all_back_of x y [] t l r = all_map _ _ (λ z m. total.trans x.0 y.0 z.0 l m) t r
      all_back_of x y (w ∷ s) t l r = all_back_of x y s t l r.1

  -- the last of the one lies before the first of the other
  pub last_before : (i : ℕ) (s t : List (K × V)) (last first : K × V) → i + 1 ≡ length s → slice_get s i ≡ Some last → slice_get t 0 ≡ Some first
      → IsAscending cmp (s ++ t) → cmp last.0 first.0 ≡ Less
  last_before i [] t last first n e f a = absurd (omega arith)
  last_before zero (x ∷ []) [] last first n e f a = absurd (cc f)
  last_before zero (x ∷ []) (y ∷ t) last first n e f a =
      let q : last ≡ x = cc e in
      let r : first ≡ y = cc f in
      ap (λ z. cmp z.0 first.0) q ∙ ap (λ z. cmp x.0 z.0) r ∙ a.0.0
  last_before (suc i) (x ∷ []) t last first n e f a = absurd (omega arith)
  last_before zero (x ∷ y ∷ s) t last first n e f a = absurd (omega arith)
  last_before (suc i) (x ∷ y ∷ s) t last first n e f a = last_before i (y ∷ s) t last first (omega arith) e f a.1
