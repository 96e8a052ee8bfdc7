-- Clones of the pairs of a walk, made one after another.
use Rattle.std.proofs.Common.{◌≡◌, List, [], ◌∷◌, ◌++◌, sym, ap, ◌∙◌, subst, append-nil}
use Rattle.std.specs.List.{AllZip}
use Rattle.std.proofs.lemmas.List.{append_assoc}
use Rattle.std.proofs.lemmas.List.Elements.{AllZip-push}

-- What a walk over all items gave so far has its clones, and the rest is still to come.
pub record IsClonedSoFar {X : Type 0} (same : X → X → Type 0) (all rest clones : List X) : Type 0 where
  pub front : List X
  pub split : all ≡ front ++ rest
  pub cloned : AllZip same front clones

module _ {X : Type 0} (same : X → X → Type 0) where
  pub none_cloned : (all rest clones : List X) → rest ≡ all → clones ≡ [] → IsClonedSoFar same all rest clones
  none_cloned all rest clones r e = record { front = []; split = sym r; cloned = subst (AllZip same []) (sym e) tt }

  pub one_cloned : (all rest left clones new : List X) (x y : X) → rest ≡ x ∷ left → same x y → new ≡ clones ++ y ∷ [] → IsClonedSoFar same all rest clones
      → IsClonedSoFar same all left new
  one_cloned all rest left clones new x y r s n m = record {
    front = m.front ++ x ∷ [];
    split = m.split ∙ ap (λ l. m.front ++ l) r ∙ sym (append_assoc m.front (x ∷ []) left);
    cloned = subst (AllZip same (m.front ++ x ∷ [])) (sym n) (AllZip-push same m.front clones x y m.cloned s);
  }

  pub all_cloned : (all rest clones : List X) → rest ≡ [] → IsClonedSoFar same all rest clones → AllZip same all clones
  all_cloned all rest clones r m = subst (λ l. AllZip same l clones) (sym (m.split ∙ ap (λ l. m.front ++ l) r ∙ append-nil m.front)) m.cloned
