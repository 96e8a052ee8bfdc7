-- What the calls of an iterator gave.
use Rattle.std.proofs.Common.{◌≡◌, List, [], ◌∷◌, ◌++◌, Option, Some, refl, sym, ap, ◌∙◌, subst}
use Rattle.std.specs.Iterator.{Yields, Drains, AlwaysYields}
use Rattle.std.proofs.lemmas.Iterator.{YieldsList, items_from_drains}
use Rattle.std.proofs.lemmas.List.{map-id}

module _ {S A : Type 0} (steps : S → Option A → S → Type 0) where
  -- One more call gave one more item.
  pub yields_more : (s t u : S) (xs : List A) (x : A) → Yields steps s xs t → steps t (Some x) u → Yields steps s (xs ++ x ∷ []) u
  yields_more s t u [] x e h = (u, subst (λ k. steps k (Some x) u) (sym e) h, refl)
  yields_more s t u (y ∷ xs) x e h = (e.0, e.1, yields_more e.0 t u xs x e.2 h)

leading : {S A : Type 0} (steps : S → Option A → S → Type 0) (s t : S) (all given : List A) → AlwaysYields steps (λ x. x) s all → Yields steps s given t
    → (rest : List A) × (given ++ rest ≡ all)
leading steps s t all [] road y = (all, refl)
leading steps s t [] (x ∷ given) road y = absurd (road x y.0 y.1)
leading steps s t (a ∷ all) (x ∷ given) road y =
    let first = road.1 x y.0 y.1 in
    let after = leading steps y.0 t all given first.1 y.2 in
    (after.0, ap (λ z. z ∷ (given ++ after.0)) first.0 ∙ ap (λ l. a ∷ l) after.1)

module _ {S A : Type 0} (steps : S → Option A → S → Type 0) (s : S) (all given : List A) (road : YieldsList steps (λ x. x) s all) where
  -- What was given until the end is all that the iterator gives.
  pub all_given : Drains steps s given → given ≡ all
  all_given d = sym (map-id given) ∙ items_from_drains given (d.1.0, d.1.1, λ _. (d.0, d.1.2)) road

  -- What was given before its end is before all that it gives.
  pub front_given : (t : S) → Yields steps s given t → (rest : List A) × (given ++ rest ≡ all)
  front_given t y = leading steps s t all given road.runs y
