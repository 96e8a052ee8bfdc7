-- Ranges that were given values, one after another, and one more.
use Rattle.std.proofs.Common.{◌≡◌, List, [], ◌∷◌, ◌++◌, Option, Some, refl, sym, subst}
use Rattle.std.specs.Iterator.{Yields}
use Rattle.std.specs.declared.cmp.Ordering.{Ordering}
use Rattle.std.specs.declared.ops.Range.{Range}
use Rattle.fc_intervals.specs.InTurn.{AreGiven, IsGiven}
use Rattle.fc_intervals.specs.declared.stretch.Stretch.{Stretch}

pub yields_more : {S A : Type 0} (steps : S → Option A → S → Type 0) (s t u : S) (xs : List A) (x : A) → Yields steps s xs t → steps t (Some x) u
    → Yields steps s (xs ++ x ∷ []) u
yields_more steps s t u [] x e h = (u, subst (λ k. steps k (Some x) u) (sym e) h, refl)
yields_more steps s t u (y ∷ xs) x e h = (e.0, e.1, yields_more steps e.0 t u xs x e.2 h)

module _ {K V : Type 0} (cmp : K → K → Ordering) (same : V → V → Type 0) where
  pub given_more : (items : List (Range K × V)) (item : Range K × V) (s t u : List (K × Stretch K V)) → AreGiven cmp same items s t
      → IsGiven cmp same item.0 item.1 t u → AreGiven cmp same (items ++ item ∷ []) s u
  given_more [] item s t u so_far one = (u, subst (λ l. IsGiven cmp same item.0 item.1 l u) so_far one, refl)
  given_more (first ∷ items) item s t u so_far one = (so_far.0, so_far.1, given_more items item so_far.0 t u so_far.2 one)
