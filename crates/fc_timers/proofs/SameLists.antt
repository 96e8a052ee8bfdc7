-- Ascending lists of pairs in which the same stands at each key are one list.
use Rattle.std.proofs.Common.{◌≡◌, Bool, true, false, cond, List, [], ◌∷◌, Option, Some, None, refl, sym, ap, ◌∙◌, subst}
use Rattle.std.specs.Prelude.{unwrap_or}
use Rattle.std.specs.Option.{option_map}
use Rattle.std.specs.Cmp.{IsTotalOrder}
use Rattle.std.specs.List.{AllByRecursion}
use Rattle.std.specs.Ordering.{is_eq, ordering_reverse}
use Rattle.std.specs.declared.cmp.Ordering.{Ordering}
use Rattle.std.specs.declared.cmp.Ordering.TheVariants.{Less, Equal, Greater}
use Rattle.std.proofs.lemmas.Cmp.{tied_itself}
use Rattle.fc_base.specs.Ascending.{IsAscending}
use Rattle.fc_base.specs.OneKey.{put}
use Rattle.fc_base.specs.Parts.{at}
use Rattle.fc_base.proofs.AscendingFacts.{is_equal}
use Rattle.fc_base.proofs.Laws.{at_equal, at_put, at_put_other}

module _ {K V : Type 0} (cmp : K → K → Ordering) where
  pub found_equal : (s : List (K × V)) (k : K) (e : K × V) → at cmp s k ≡ Some e → cmp e.0 k ≡ Equal
  found_equal [] k e h = absurd cc
  found_equal (x ∷ s) k e h = go (is_eq (cmp x.0 k)) refl h (found_equal s k e)
    where
      go : (b : Bool) → is_eq (cmp x.0 k) ≡ b → cond b (Some x) (at cmp s k) ≡ Some e → (at cmp s k ≡ Some e → cmp e.0 k ≡ Equal) → cmp e.0 k ≡ Equal
      go true t h rest = let same : x ≡ e = cc in ap (λ y. cmp y.0 k) (sym same) ∙ is_equal _ t
      go false t h rest = rest h

  -- What is so of each pair is so of the one that is found.
  pub of_found : (P : K × V → Type 0) (s : List (K × V)) (k : K) (e : K × V) → AllByRecursion P s → at cmp s k ≡ Some e → P e
  of_found P [] k e a h = absurd cc
  of_found P (x ∷ s) k e a h = go (is_eq (cmp x.0 k)) h (of_found P s k e a.1)
    where
      go : (b : Bool) → cond b (Some x) (at cmp s k) ≡ Some e → (at cmp s k ≡ Some e → P e) → P e
      go true h rest = let same : x ≡ e = cc in subst P same a.0
      go false h rest = rest h

module _ {K V : Type 0} (cmp : K → K → Ordering) (total : IsTotalOrder cmp) where
  -- What stands at each key once a pair is put where none was.
  pub at_put_new : (s : List (K × V)) (k : K) (v : V) (j : K) → at cmp s k ≡ None → at cmp (put cmp s k v) j ≡ cond (is_eq (cmp k j)) (Some (k, v)) (at cmp s j)
  at_put_new s k v j none = go (cmp k j) refl
    where
      go : (r : Ordering) → cmp k j ≡ r → at cmp (put cmp s k v) j ≡ cond (is_eq r) (Some (k, v)) (at cmp s j)
      go Less e = at_put_other cmp s k v j total (λ h. let no : Less ≡ Equal = sym e ∙ total.antisymm k j ∙ ap ordering_reverse h in absurd cc)
      go Equal e =
          at_equal cmp (put cmp s k v) k j total (total.antisymm j k ∙ ap ordering_reverse e) ∙ at_put cmp s k v total
          ∙ ap (λ o. Some (unwrap_or (option_map (λ (x : K × V). x.0) o) k, v)) none
      go Greater e = at_put_other cmp s k v j total (λ h. let no : Greater ≡ Equal = sym e ∙ total.antisymm k j ∙ ap ordering_reverse h in absurd cc)

  first_at : (x : K × V) (s : List (K × V)) → at cmp (x ∷ s) x.0 ≡ Some x
  first_at x s = ap (λ r. cond (is_eq r) (Some x) (at cmp s x.0)) (tied_itself total x.0)

  -- What is so of each pair that is found at its key is so of all.
  pub all_found : (P : K × V → Type 0) (s : List (K × V)) → IsAscending cmp s → ((e : K × V) → at cmp s e.0 ≡ Some e → P e) → AllByRecursion P s
  all_found P [] a f = tt
  all_found P (x ∷ s) a f = (
    f x (first_at x s),
    all_found P s a.1 (λ e h. f e (ap (λ r. cond (is_eq r) (Some x) (at cmp s e.0)) (of_found cmp (λ y. cmp x.0 y.0 ≡ Less) s e.0 e a.0 h) ∙ h)),
  )

  nothing_below : (x : K × V) (s : List (K × V)) (k : K) → AllByRecursion (λ y. cmp x.0 y.0 ≡ Less) s → cmp x.0 k ≡ Equal → at cmp s k ≡ None
  nothing_below x s k a h = go (at cmp s k) refl
    where
      go : (o : Option (K × V)) → at cmp s k ≡ o → at cmp s k ≡ None
      go None e = e
      go (Some y) e =
          let equal : cmp x.0 y.0 ≡ Equal = total.congr x.0 k y.0 h ∙ total.antisymm k y.0 ∙ ap ordering_reverse (found_equal cmp s k y e) in
          let no : Less ≡ Equal = sym (of_found cmp (λ z. cmp x.0 z.0 ≡ Less) s k y a e) ∙ equal in
          absurd cc

  module _ (x y : K × V) (s t : List (K × V)) (a : IsAscending cmp (x ∷ s)) (b : IsAscending cmp (y ∷ t))
      (f : (k : K) → at cmp (x ∷ s) k ≡ at cmp (y ∷ t) k) where
    heads : x ≡ y
    heads = go (cmp y.0 x.0) refl (sym (f x.0) ∙ first_at x s)
      where
        further : (r : Ordering) → cmp x.0 y.0 ≡ r → r ≡ Greater → cond (is_eq r) (Some x) (at cmp s y.0) ≡ Some y → x ≡ y
        further Less e g h = absurd cc
        further Equal e g h = absurd cc
        further Greater e g h = let no : Less ≡ Greater = sym (of_found cmp (λ z. cmp x.0 z.0 ≡ Less) s y.0 y a.0 h) ∙ e in absurd cc

        go : (r : Ordering) → cmp y.0 x.0 ≡ r → cond (is_eq r) (Some y) (at cmp t x.0) ≡ Some x → x ≡ y
        go Less e h = further (cmp x.0 y.0) refl (total.antisymm x.0 y.0 ∙ ap ordering_reverse e) (f y.0 ∙ first_at y t)
        go Equal e h = let same : y ≡ x = cc in sym same
        go Greater e h = let no : Less ≡ Greater = sym (of_found cmp (λ z. cmp y.0 z.0 ≡ Less) t x.0 x b.0 h) ∙ e in absurd cc

    tails : (k : K) → at cmp s k ≡ at cmp t k
    tails k = go (cmp x.0 k) refl (ap (λ z. cmp z.0 k) (sym heads))
      where
        after : (r : Ordering) → cmp x.0 k ≡ r → cmp y.0 k ≡ r → is_eq r ≡ false → at cmp s k ≡ at cmp t k
        after r e d n =
            sym (ap (λ z. cond (is_eq z) (Some x) (at cmp s k)) e ∙ ap (λ z. cond z (Some x) (at cmp s k)) n) ∙ f k
            ∙ (ap (λ z. cond (is_eq z) (Some y) (at cmp t k)) d ∙ ap (λ z. cond z (Some y) (at cmp t k)) n)

        go : (r : Ordering) → cmp x.0 k ≡ r → cmp y.0 k ≡ cmp x.0 k → at cmp s k ≡ at cmp t k
        go Less e d = after Less e (d ∙ e) refl
        go Equal e d = nothing_below x s k a.0 e ∙ sym (nothing_below y t k b.0 (d ∙ e))
        go Greater e d = after Greater e (d ∙ e) refl

  pub same_list : (s t : List (K × V)) → IsAscending cmp s → IsAscending cmp t → ((k : K) → at cmp s k ≡ at cmp t k) → s ≡ t
  same_list [] [] a b f = refl
  same_list [] (y ∷ t) a b f = let no : None ≡ Some y = f y.0 ∙ first_at y t in absurd cc
  same_list (x ∷ s) [] a b f = let no : None ≡ Some x = sym (f x.0) ∙ first_at x s in absurd cc
  same_list (x ∷ s) (y ∷ t) a b f = ap (λ z. z ∷ s) (heads x y s t a b f) ∙ ap (λ l. y ∷ l) (same_list s t a.1 b.1 (tails x y s t a b f))
