-- An ascending list with a pair put in or taken out is ascending.
use Rattle.std.proofs.Common.{◌≡◌, List, [], ◌∷◌, ◌++◌, Some, refl, ap, ◌∙◌, cond, true, false, Bool}
use Rattle.std.specs.List.{filter}
use Rattle.std.specs.Ordering.{is_lt, is_eq, is_gt}
use Rattle.std.specs.declared.cmp.Ordering.{Ordering}
use Rattle.std.specs.declared.cmp.Ordering.TheVariants.{Less, Equal, Greater}
use Rattle.std.specs.Ordering.{ordering_reverse}
use Rattle.std.specs.Cmp.{IsTotalOrder}
use Rattle.std.specs.List.{AllByRecursion}
use Rattle.fc_base.specs.Ascending.{IsAscending}
use Rattle.fc_base.specs.Parts.{below, above, at}
use Rattle.fc_base.specs.Viewed.{over_one}
use Rattle.std.specs.Option.{option_map}
use Rattle.std.specs.Prelude.{unwrap_or}
use Rattle.std.specs.Cmp.{tied_itself}

pub under_one : {K : Type 0} (cmp : K → K → Ordering) (total : IsTotalOrder cmp) (k y : K) → cmp y k ≡ Greater → cmp k y ≡ Less
under_one cmp total k y h = total.antisymm k y ∙ ap ordering_reverse h

-- the one answer that is equal
pub is_equal : (r : Ordering) → is_eq r ≡ true → r ≡ Equal
is_equal Less h = absurd cc
is_equal Equal h = refl
is_equal Greater h = absurd cc

-- a filter that keeps all, and one that keeps nothing
module _ {X : Type 0} (p : X → Bool) where
  pub kept : (s : List X) → AllByRecursion (λ x. p x ≡ true) s → filter p s ≡ s
  kept [] a = refl
  kept (x ∷ s) a = rw a.0 (ap (λ zs. x ∷ zs) (kept s a.1))

  pub left_out : (s : List X) → AllByRecursion (λ x. p x ≡ false) s → filter p s ≡ []
  left_out [] a = refl
  left_out (x ∷ s) a = rw a.0 (left_out s a.1)

pub all_filter : {X : Type 0} (P : X → Type 0) (p : X → Bool) (s : List X) → AllByRecursion P s → AllByRecursion P (filter p s)
all_filter P p [] a = tt
all_filter P p (e ∷ s) a = elim (p e) as (λ b. AllByRecursion P (cond b (e ∷ filter p s) (filter p s)))
    [ true ↦ (a.0, all_filter P p s a.1) | false ↦ all_filter P p s a.1 ]

all_append : {X : Type 0} (P : X → Type 0) (a b : List X) → AllByRecursion P a → AllByRecursion P b → AllByRecursion P (a ++ b)
all_append P [] b h o = o
all_append P (e ∷ a) b h o = (h.0, all_append P a b h.1 o)

pub all_map : {X : Type 0} (P Q : X → Type 0) (f : (x : X) → P x → Q x) (a : List X) → AllByRecursion P a → AllByRecursion Q a
all_map P Q f [] h = tt
all_map P Q f (e ∷ a) h = (f e h.0, all_map P Q f a h.1)

module _ {K Q V : Type 0} (cmp : K → Q → Ordering) where
  pub all_below : (s : List (K × V)) (k : Q) → AllByRecursion (λ e. cmp e.0 k ≡ Less) (below cmp s k)
  all_below [] k = tt
  all_below (e ∷ s) k = go (cmp e.0 k) refl (all_below s k)
    where
      go : (o : Ordering) → cmp e.0 k ≡ o → AllByRecursion (λ x. cmp x.0 k ≡ Less) (below cmp s k)
          → AllByRecursion (λ x. cmp x.0 k ≡ Less) (cond (is_lt o) (e ∷ below cmp s k) (below cmp s k))
      go Less h rest = (h, rest)
      go Equal h rest = rest
      go Greater h rest = rest

  pub all_above : (s : List (K × V)) (k : Q) → AllByRecursion (λ e. cmp e.0 k ≡ Greater) (above cmp s k)
  all_above [] k = tt
  all_above (e ∷ s) k = go (cmp e.0 k) refl (all_above s k)
    where
      go : (o : Ordering) → cmp e.0 k ≡ o → AllByRecursion (λ x. cmp x.0 k ≡ Greater) (above cmp s k)
          → AllByRecursion (λ x. cmp x.0 k ≡ Greater) (cond (is_gt o) (e ∷ above cmp s k) (above cmp s k))
      go Less h rest = rest
      go Equal h rest = rest
      go Greater h rest = (h, rest)

module _ {K V : Type 0} (cmp : K → K → Ordering) where
  pub asc_filter : (p : K × V → Bool) (s : List (K × V)) → IsAscending cmp s → IsAscending cmp (filter p s)
  asc_filter p [] a = tt
  asc_filter p (e ∷ s) a = elim (p e) as (λ b. IsAscending cmp (cond b (e ∷ filter p s) (filter p s)))
      [ true ↦ (all_filter _ p s a.0, asc_filter p s a.1) | false ↦ asc_filter p s a.1 ]

  asc_join : (b a : List (K × V)) → IsAscending cmp b → IsAscending cmp a → AllByRecursion (λ x. AllByRecursion (λ y. cmp x.0 y.0 ≡ Less) a) b
      → IsAscending cmp (b ++ a)
  asc_join [] a hb ha all = ha
  asc_join (e ∷ b) a hb ha all = (all_append (λ y. cmp e.0 y.0 ≡ Less) b a hb.0 all.0, asc_join b a hb.1 ha all.1)

  module _ (total : IsTotalOrder cmp) (k : K) where
    -- The key that `put` leaves is equal to k.
    pub at_key : (s : List (K × V)) → cmp (unwrap_or (option_map (λ (e : K × V). e.0) (at cmp s k)) k) k ≡ Equal
    at_key [] = tied_itself total k
    at_key (e ∷ s) = go (cmp e.0 k) refl (at_key s)
      where
        go : (o : Ordering) → cmp e.0 k ≡ o → cmp (unwrap_or (option_map (λ (e : K × V). e.0) (at cmp s k)) k) k ≡ Equal
            → cmp (unwrap_or (option_map (λ (e : K × V). e.0) (cond (is_eq o) (Some e) (at cmp s k))) k) k ≡ Equal
        go Less h rest = rest
        go Equal h rest = h
        go Greater h rest = rest

  module _ (total : IsTotalOrder cmp) (s : List (K × V)) (a : IsAscending cmp s) (k : K) where
    pub asc_cut : IsAscending cmp (below cmp s k ++ above cmp s k)
    asc_cut = asc_join _ _ (asc_filter _ s a) (asc_filter _ s a) (all_map _ _
        (λ x less. all_map _ _ (λ y more. total.trans x.0 k y.0 less (under_one cmp total k y.0 more)) (above cmp s k) (all_above cmp s k)) (below cmp s k)
        (all_below cmp s k))

    pub asc_put : (x : K × V) → cmp x.0 k ≡ Equal → IsAscending cmp (below cmp s k ++ x ∷ above cmp s k)
    asc_put x same = asc_join _ _ (asc_filter _ s a)
        (all_map _ _ (λ y more. total.congr x.0 k y.0 same ∙ under_one cmp total k y.0 more) (above cmp s k) (all_above cmp s k), asc_filter _ s a)
        (all_map _ _ (λ e less. (
          under_one cmp total e.0 x.0 (total.congr x.0 k e.0 same ∙ over_one cmp total e.0 k less),
          all_map _ _ (λ y more. total.trans e.0 k y.0 less (under_one cmp total k y.0 more)) (above cmp s k) (all_above cmp s k),
        )) (below cmp s k)
        (all_below cmp s k))
