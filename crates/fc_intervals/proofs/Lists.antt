-- Filters, searches and the last item of a list.
use Rattle.std.proofs.Common.{◌≡◌, suc, ◌-◌, Bool, true, false, cond, List, [], ◌∷◌, ◌++◌, length, slice_get, Option, Some, None, refl, sym, ap, ◌∙◌}
use Rattle.std.proofs.Common.{arith}
use Rattle.std.specs.Prelude.{◌&&◌, map}
use Rattle.std.specs.List.{AllByRecursion, filter, find}
use Rattle.std.specs.Option.{option_or}
use Rattle.std.proofs.lemmas.List.Folds.{find-append}
use Rattle.fc_laws.specs.Words.{last_item}

pub and_false : (b : Bool) → (b && false) ≡ false
and_false true = refl
and_false false = refl

pub and_left : (a b : Bool) → (a && b) ≡ true → a ≡ true
and_left true b h = refl
and_left false b h = absurd cc

pub and_right : (a b : Bool) → (a && b) ≡ true → b ≡ true
and_right true b h = h
and_right false b h = absurd cc

module _ {X : Type 0} where
  pub one_value : (x y : X) → Some x ≡ Some y → x ≡ y
  one_value x y h = cc

  pub all_kept : (P : X → Type 0) (p : X → Bool) (s : List X) → AllByRecursion P s → AllByRecursion P (filter p s)
  all_kept P p [] a = tt
  all_kept P p (x ∷ s) a = elim (p x) as (λ b. AllByRecursion P (cond b (x ∷ filter p s) (filter p s)))
      [ true ↦ (a.0, all_kept P p s a.1) | false ↦ all_kept P p s a.1 ]

  pub all_joined : (P : X → Type 0) (s t : List X) → AllByRecursion P s → AllByRecursion P t → AllByRecursion P (s ++ t)
  all_joined P [] t a b = b
  all_joined P (x ∷ s) t a b = (a.0, all_joined P s t a.1 b)

  pub all_at : (P : X → Type 0) (s t : List X) (x : X) → AllByRecursion P (s ++ x ∷ t) → P x
  all_at P [] t x a = a.0
  all_at P (y ∷ s) t x a = all_at P s t x a.1

  pub all_pass : (p : X → Bool) (s : List X) → AllByRecursion (λ x. p x ≡ true) (filter p s)
  all_pass p [] = tt
  all_pass p (x ∷ s) = go (p x) refl (all_pass p s)
    where
      go : (b : Bool) → p x ≡ b → AllByRecursion (λ y. p y ≡ true) (filter p s) → AllByRecursion (λ y. p y ≡ true) (cond b (x ∷ filter p s) (filter p s))
      go true e more = (e, more)
      go false e more = more

  pub kept : (p : X → Bool) (s : List X) → AllByRecursion (λ x. p x ≡ true) s → filter p s ≡ s
  kept p [] a = refl
  kept p (x ∷ s) a = ap (λ b. cond b (x ∷ filter p s) (filter p s)) a.0 ∙ ap (λ zs. x ∷ zs) (kept p s a.1)

  pub left_out : (p : X → Bool) (s : List X) → AllByRecursion (λ x. p x ≡ false) s → filter p s ≡ []
  left_out p [] a = refl
  left_out p (x ∷ s) a = ap (λ b. cond b (x ∷ filter p s) (filter p s)) a.0 ∙ left_out p s a.1

  pub not_found : (p : X → Bool) (s : List X) → AllByRecursion (λ x. p x ≡ false) s → find p s ≡ None
  not_found p [] a = refl
  not_found p (x ∷ s) a = ap (λ b. cond b (Some x) (find p s)) a.0 ∙ not_found p s a.1

  -- a search among those that pass a test which each that it finds passes
  pub found_in : (p q : X → Bool) → ((x : X) → p x ≡ true → q x ≡ true) → (s : List X) → find p (filter q s) ≡ find p s
  found_in p q fits [] = refl
  found_in p q fits (x ∷ s) = go (p x) (q x) refl refl (fits x) (found_in p q fits s)
    where
      go : (u v : Bool) → p x ≡ u → q x ≡ v → (u ≡ true → v ≡ true) → find p (filter q s) ≡ find p s
          → find p (cond v (x ∷ filter q s) (filter q s)) ≡ cond u (Some x) (find p s)
      go true true e f h i = ap (λ b. cond b (Some x) (find p (filter q s))) e
      go true false e f h i = absurd (let no : false ≡ true = h refl in cc)
      go false true e f h i = ap (λ b. cond b (Some x) (find p (filter q s))) e ∙ i
      go false false e f h i = i

  -- two filters are one, by a test that passes just where both do
  pub filters_both : (p q t : X → Bool) → ((x : X) → (p x && q x) ≡ t x) → (s : List X) → filter q (filter p s) ≡ filter t s
  filters_both p q t fits [] = refl
  filters_both p q t fits (x ∷ s) = go (p x) (fits x) (filters_both p q t fits s)
    where
      go : (b : Bool) → (b && q x) ≡ t x → filter q (filter p s) ≡ filter t s
          → filter q (cond b (x ∷ filter p s) (filter p s)) ≡ cond (t x) (x ∷ filter t s) (filter t s)
      go true h i = ap (λ c. cond c (x ∷ filter q (filter p s)) (filter q (filter p s))) h ∙ ap (λ zs. cond (t x) (x ∷ zs) zs) i
      go false h i = i ∙ ap (λ c. cond c (x ∷ filter t s) (filter t s)) h

  no_more : (o : Option X) → option_or o None ≡ o
  no_more None = refl
  no_more (Some x) = refl

  pub found_after : (p : X → Bool) (s t : List X) → find p s ≡ None → find p (s ++ t) ≡ find p t
  found_after p s t h = find-append p s t ∙ ap (λ o. option_or o (find p t)) h

  pub found_before : (p : X → Bool) (s t : List X) → find p t ≡ None → find p (s ++ t) ≡ find p s
  found_before p s t h = find-append p s t ∙ ap (option_or (find p s)) h ∙ no_more (find p s)

  pub last_more : (x y : X) (s : List X) → last_item (x ∷ y ∷ s) ≡ last_item (y ∷ s)
  last_more x y s = let n : suc (suc (length s)) - 1 ≡ suc (suc (length s) - 1) = omega arith in ap (slice_get (x ∷ y ∷ s)) n

  pub no_last : (s : List X) → last_item s ≡ None → s ≡ []
  no_last [] e = refl
  no_last (y ∷ []) e = absurd cc
  no_last (y ∷ z ∷ s) e = absurd (let n : z ∷ s ≡ [] = no_last (z ∷ s) (sym (last_more y z s) ∙ e) in cc)

  -- a list with a last item is what leads to it, and it
  pub record EndsIn (s : List X) (y : X) : Type 0 where
    pub lead : List X
    pub is : s ≡ lead ++ y ∷ []

  pub ends_in : (s : List X) (y : X) → last_item s ≡ Some y → EndsIn s y
  ends_in [] y e = absurd cc
  ends_in (x ∷ []) y e = record { lead = []; is = let same : x ≡ y = cc in ap (λ z. z ∷ []) same }
  ends_in (x ∷ z ∷ s) y e = let more = ends_in (z ∷ s) y (sym (last_more x z s) ∙ e) in record { lead = x ∷ more.lead; is = ap (λ zs. x ∷ zs) more.is }

  pub last_is : (s : List X) (x : X) → last_item (s ++ x ∷ []) ≡ Some x
  last_is [] x = refl
  last_is (y ∷ []) x = last_more y x []
  last_is (y ∷ z ∷ s) x = last_more y z (s ++ x ∷ []) ∙ last_is (z ∷ s) x

pub all_over : {X Y : Type 0} (P : Y → Type 0) (f : X → Y) (s : List X) → AllByRecursion (λ x. P (f x)) s → AllByRecursion P (map f s)
all_over P f [] a = tt
all_over P f (x ∷ s) a = (a.0, all_over P f s a.1)
