-- The laws of the set operations over ascending lists: how many items they have.
-- A caller names one on a function, as `#[tactic(auto, using(fc_set::proofs::OperationLaws::lengths))]`, or cites it in an answer.
use Rattle.std.proofs.Common.{◌≡◌, ℕ, ◌+◌, ◌-◌, ◌^◌, ◌<◌, ◌≤◌, ◌↔◌, ◌⊎◌, inl, inr, Bool, true, false, cond, List, [], ◌∷◌, length, Option, Some, None, SomeIff}
use Rattle.std.proofs.Common.{IfSome, MatchOption, IsTrue, is_some, is_none, not, max, refl, sym, ap, ◌∙◌, arith}
use Rattle.std.specs.Prelude.{nat_le}
use Rattle.std.specs.Iterator.{UpTo, at_most}
use Rattle.std.specs.Cmp.{IsTotalOrder}
use Rattle.std.specs.declared.cmp.Ordering.{Ordering}
use Rattle.std.specs.declared.cmp.Ordering.TheVariants.{Less, Equal, Greater}
use Rattle.std.proofs.lemmas.Bool.{true≢false}
use Rattle.std.proofs.lemmas.Bool.Decides.{leb_tells}
use Rattle.std.proofs.lemmas.List.Filters.{length-filter_both}
use Rattle.fc_base.proofs.AscendingFacts.{under_one}
use Rattle.fc_set.specs.Items.{AreAscending, joined_items}
use Rattle.fc_set.specs.Operations.{difference, common, symmetric_difference, intersection, union}
use Rattle.fc_set.specs.Sides.{begin_filtering, begin_with_shorter}
use Rattle.fc_set.proofs.SideFacts.{
  IsBelow,
  below_on,
  tied_back,
  common_of_none,
  common_ours,
  common_after,
  common_tied,
  joined_first,
  joined_ours,
  joined_tied,
}
use Rattle.fc_set.proofs.SideFacts.{joined_to_none, ascending_kept}

module _ {T : Type 0} (cmp : T → T → Ordering) (total : IsTotalOrder cmp) where
  -- the items of both and those of either, and that both sides have as many in common
  abbrev Count : List T → List T → Type 0
  Count s t = (length (joined_items cmp t s) + length (common cmp s t) ≡ length s + length t) × (length (common cmp s t) ≡ length (common cmp t s))

  with_first : (x : T) (s : List T) → AreAscending cmp (x ∷ s) → ((t : List T) → AreAscending cmp t → Count s t) → (t : List T) → AreAscending cmp t
      → Count (x ∷ s) t
  with_first x s a ih [] b =
      let j = ap length (joined_to_none cmp total (x ∷ s) a) in
      let c = ap length (common_of_none cmp (x ∷ s)) in (omega (arith, j, c), c)
  with_first x s a ih (y ∷ t) b = go (cmp x y) refl (ih (y ∷ t) b) (ih t b.1) (with_first x s a ih t b.1)
    where
      go : (r : Ordering) → cmp x y ≡ r → Count s (y ∷ t) → Count s t → Count (x ∷ s) t → Count (x ∷ s) (y ∷ t)
      go Less e i j k =
          let below : IsBelow cmp x (y ∷ t) = (e, below_on cmp total x y t e b.0) in
          let u = ap length (joined_ours cmp total s (y ∷ t) x a.0 below) in
          let c = ap length (common_ours cmp total s (y ∷ t) x below) in
          let d = ap length (common_after cmp (y ∷ t) s x below) in
          (omega (arith, u, c, i.0), c ∙ i.1 ∙ sym d)
      go Equal e i j k =
          let u = ap length (joined_tied cmp total s t x y e a.0 b.0) in
          let c = ap length (common_tied cmp total s t x y e a.0) in
          let d = ap length (common_tied cmp total t s y x (tied_back cmp total x y e) b.0) in
          (omega (arith, u, c, j.0), omega (arith, c, d, j.1))
      go Greater e i j k =
          let less : cmp y x ≡ Less = under_one cmp total y x e in
          let below : IsBelow cmp y (x ∷ s) = (less, below_on cmp total y x s less a.0) in
          let u = ap length (joined_first cmp (x ∷ s) t y below) in
          let c = ap length (common_after cmp (x ∷ s) t y below) in
          let d = ap length (common_ours cmp total t (x ∷ s) y below) in
          (omega (arith, u, c, k.0), c ∙ k.1 ∙ sym d)

  counted : (s t : List T) → AreAscending cmp s → AreAscending cmp t → Count s t
  counted [] t a b = let c = ap length (common_of_none cmp t) in (omega (arith, c), sym c)
  counted (x ∷ s) t a b = with_first x s a (λ u h. counted s u a.1 h) t b

  opposite : (o : Option T) → is_some o ≡ not (not (is_some o))
  opposite None = refl
  opposite (Some x) = refl

  -- Each item of the first is either in the difference or common.
  pub parted : (s t : List T) → length (difference cmp s t) + length (common cmp s t) ≡ length s
  parted s t = length-filter_both _ _ (λ x. opposite _) s

  module _ (s t : List T) (a : AreAscending cmp s) (b : AreAscending cmp t) where
    -- Both sides have as many items in common, and a union with these has as many as both.
    pub in_common : length (common cmp s t) ≡ length (common cmp t s)
    in_common = (counted s t a b).1

    pub all_counted : length (union cmp s t) + length (common cmp s t) ≡ length s + length t
    all_counted = (counted s t a b).0

    -- The lengths of union and intersection add up to those of both lists.
    pub lengths : length (union cmp s t) + length (intersection cmp s t) ≡ length s + length t
    lengths = elim (nat_le (length s) (length t)) as (λ p. length (union cmp s t) + length (cond p (common cmp s t) (common cmp t s)) ≡ length s + length t)
        [ true ↦ all_counted | false ↦ ap (λ n. length (union cmp s t) + n) (sym in_common) ∙ all_counted ]

    -- How many items the operations have at least, and at most.
    pub difference_at_least : length s - length t ≤ length (difference cmp s t)
    difference_at_least = omega (arith, parted s t, parted t s, in_common)

    pub union_at_least : max (length s) (length t) ≤ length (union cmp s t)
    union_at_least = omega (arith, all_counted, parted s t, parted t s, in_common)

    pub union_at_most : length (union cmp s t) ≤ length s + length t
    union_at_most = omega (arith, all_counted)

  pub difference_at_most : (s t : List T) → length (difference cmp s t) ≤ length s
  difference_at_most s t = omega (arith, parted s t)

  pub common_at_most : (s t : List T) → length (common cmp s t) ≤ length s
  common_at_most s t = omega (arith, parted s t)

  pub intersection_at_most : (s t : List T) → length (intersection cmp s t) ≤ length s
  intersection_at_most s t = within (leb_tells (length s) (length t))
    where
      within : ((nat_le (length s) (length t) ≡ true) × (length s ≤ length t)) ⊎ ((nat_le (length s) (length t) ≡ false) × (length t < length s))
          → length (intersection cmp s t) ≤ length s
      within (inl w) = rw w.0 (common_at_most s t)
      within (inr w) = rw w.0 (omega (arith, common_at_most t s, w.1))

  pub symmetric_at_most : (s t : List T) → AreAscending cmp s → AreAscending cmp t → length (symmetric_difference cmp s t) ≤ length s + length t
  symmetric_at_most s t a b = omega (
    arith,
    union_at_most (difference cmp t s) (difference cmp s t) (ascending_kept cmp _ t b) (ascending_kept cmp _ s a),
    difference_at_most s t,
    difference_at_most t s,
  )

-- A sum of two lengths, where it fits, is an upper bound of what is at most as long.
pub within_sum : (r : Option ℕ) (a b n : ℕ) → SomeIff r (a + b < 2 ^ 64) (a + b) → n ≤ a + b → IfSome r (UpTo (at_most n))
within_sum None a b n h le = tt
within_sum (Some k) a b n h le = let e = h.1 in (tt, omega (arith, le, e))

-- A longer list is no part of another.
pub longer_is_no_part : {T : Type 0} (cmp : T → T → Ordering) → IsTotalOrder cmp → (s t : List T) → AreAscending cmp s → AreAscending cmp t
    → length t < length s → IsTrue false ↔ (difference cmp s t ≡ [])
longer_is_no_part cmp total s t a b longer = (
  λ f. absurd cc,
  λ e. let n = ap length e in
      let m = difference_at_least cmp total s t a b in absurd (omega (arith, n, m, longer)),
)

-- The items that the shorter list has in common with the other, by either way round.
pub common_by_length : {T : Type 0} (cmp : T → T → Ordering) (s t : List T) → let w = begin_with_shorter s t in common cmp w.left w.right ≡ intersection cmp s t
common_by_length cmp s t = go (nat_le (length s) (length t))
  where
    go : (p : Bool) → let w = cond p (begin_filtering s t) (begin_filtering t s) in common cmp w.left w.right ≡ cond p (common cmp s t) (common cmp t s)
    go true = refl
    go false = refl

-- Nothing came first just where the list is empty.
pub none_first : {A B : Type 0} (view : A → B) (r : Option A) (all rest : List B) (none : Bool) → none ≡ is_none r
    → MatchOption r ((all ≡ []) × (rest ≡ [])) (λ x. all ≡ view x ∷ rest) → IsTrue none ↔ (all ≡ [])
none_first view None all rest none e h = (λ _. h.0, λ _. e)
none_first view (Some x) all rest none e h = ((λ t. absurd (true≢false (sym t ∙ e))), λ n. absurd (not_empty (view x) rest (sym n ∙ h)))
  where
    not_empty : {X : Type 0} (x : X) (s : List X) → ¬ ([] ≡ x ∷ s)
    not_empty x s e = absurd cc
