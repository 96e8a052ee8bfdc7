-- What holds of each item of a list, and that each pair of an ascending list stands at its key.
use Rattle.std.proofs.Common.{◌≡◌, Bool, true, false, cond, List, [], ◌∷◌, Some, refl, subst}
use Rattle.std.specs.List.{AllByRecursion, find}
use Rattle.std.specs.Cmp.{IsTotalOrder}
use Rattle.std.specs.declared.cmp.Ordering.{Ordering}
use Rattle.std.specs.declared.cmp.Ordering.TheVariants.{Less}
use Rattle.std.proofs.lemmas.Cmp.{tied_itself}
use Rattle.fc_base.specs.Ascending.{IsAscending}
use Rattle.fc_base.specs.Parts.{at}

-- What holds of each item holds of one that a search finds.
pub of_found : {X : Type 0} (P : X → Type 0) (q : X → Bool) (s : List X) (x : X) → AllByRecursion P s → find q s ≡ Some x → P x
of_found P q [] x a e = absurd cc
of_found {X = X} P q (y ∷ s) x a e = go (q y) e (of_found P q s x a.1)
  where
    go : (b : Bool) → cond b (Some y) (find q s) ≡ Some x → (find q s ≡ Some x → P x) → P x
    go true f more = let same : y ≡ x = cc in subst P same a.0
    go false f more = more f

module _ {X : Type 0} (p : X → Bool) where
  -- An item that a search finds passes its test.
  pub found_passes : (s : List X) (x : X) → find p s ≡ Some x → p x ≡ true
  found_passes [] x e = absurd cc
  found_passes (y ∷ s) x e = go (p y) refl e (found_passes s x)
    where
      go : (b : Bool) → p y ≡ b → cond b (Some y) (find p s) ≡ Some x → (find p s ≡ Some x → p x ≡ true) → p x ≡ true
      go true h f more = let same : y ≡ x = cc in subst (λ z. p z ≡ true) same h
      go false h f more = more f

module _ {K V : Type 0} (cmp : K → K → Ordering) where
  -- At the key of each pair of an ascending list stands that pair.
  pub each_there : (s : List (K × V)) → IsTotalOrder cmp → IsAscending cmp s → AllByRecursion (λ e. at cmp s e.0 ≡ Some e) s
  each_there [] total a = tt
  each_there (e ∷ s) total a = (rw (tied_itself total e.0) refl, after s a.0 (each_there s total a.1))
    where
      after : (t : List (K × V)) → AllByRecursion (λ x. cmp e.0 x.0 ≡ Less) t → AllByRecursion (λ x. at cmp s x.0 ≡ Some x) t
          → AllByRecursion (λ x. at cmp (e ∷ s) x.0 ≡ Some x) t
      after [] l h = tt
      after (x ∷ t) l h = (rw l.0 h.0, after t l.1 h.1)
