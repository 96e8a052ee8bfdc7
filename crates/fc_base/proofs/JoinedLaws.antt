-- The laws of a list that is cut in two, and of two lists joined where all keys of the second lie after those of the first.
use Rattle.std.proofs.Common.{◌≡◌, cond, List, [], ◌∷◌, ◌++◌, refl, sym, ap, ◌∙◌, subst, append-nil}
use Rattle.std.specs.List.{AllByRecursion}
use Rattle.std.specs.Cmp.{IsTotalOrder}
use Rattle.std.specs.Ordering.{is_lt, is_gt, is_ge}
use Rattle.std.specs.declared.cmp.Ordering.{Ordering}
use Rattle.std.specs.declared.cmp.Ordering.TheVariants.{Less, Equal, Greater}
use Rattle.std.proofs.lemmas.Cmp.{tied_itself}
use Rattle.std.proofs.lemmas.List.{append_assoc}
use Rattle.fc_base.specs.Ascending.{IsAscending}
use Rattle.fc_base.specs.Halves.{not_below}
use Rattle.fc_base.specs.Joined.{placed, joined}
use Rattle.fc_base.specs.Parts.{below}
use Rattle.fc_base.specs.Query.{IsQueryOrder}
use Rattle.fc_base.proofs.AscendingFacts.{all_map, asc_put, kept, left_out}
use Rattle.fc_base.proofs.Laws.{smaller_before}

module _ {K Q V : Type 0} (cmp : K → K → Ordering) (order : K → Q → Ordering) where
  -- An ascending list is what is below a query, and what is not.
  pub halves_joined : (s : List (K × V)) (q : Q) → IsQueryOrder cmp order → IsAscending cmp s → below order s q ++ not_below order s q ≡ s
  halves_joined [] q fits a = refl
  halves_joined (e ∷ s) q fits a = go (order e.0 q) refl (halves_joined s q fits a.1)
    where
      none : AllByRecursion (λ x. order x.0 q ≡ Greater) s → (below order s q ≡ []) × (not_below order s q ≡ s)
      none g = (left_out _ s (all_map _ _ (λ x h. ap is_lt h) s g), kept _ s (all_map _ _ (λ x h. ap is_ge h) s g))

      go : (r : Ordering) → order e.0 q ≡ r → below order s q ++ not_below order s q ≡ s
          → cond (is_lt r) (e ∷ below order s q) (below order s q) ++ cond (is_ge r) (e ∷ not_below order s q) (not_below order s q) ≡ e ∷ s
      go Less h i = ap (λ zs. e ∷ zs) i
      go Equal h i = let n = none (all_map _ _ (λ x l. fits.after q e.0 x.0 l h) s a.0) in rw (n.0, n.1) refl
      go Greater h i = let n = none (all_map _ _ (λ x l. fits.upper q e.0 x.0 l h) s a.0) in rw (n.0, n.1) refl

module _ {K V : Type 0} (cmp : K → K → Ordering) where
  -- A pair whose key lies after all keys of a list is placed at its end.
  pub placed_after : (s : List (K × V)) (e : K × V) → AllByRecursion (λ x. cmp x.0 e.0 ≡ Less) s → placed cmp s e ≡ s ++ e ∷ []
  placed_after s e less = rw (kept _ s (all_map _ _ (λ x h. ap is_lt h) s less), left_out _ s (all_map _ _ (λ x h. ap is_gt h) s less)) refl

  -- Where all keys of the second list lie after those of the first, the two are joined end to end.
  pub joined_after : (front back : List (K × V)) → IsAscending cmp (front ++ back) → joined cmp front back ≡ front ++ back
  joined_after front [] a = sym (append-nil front)
  joined_after front (e ∷ back) a =
      ap (λ s. joined cmp s back) (placed_after front e (smaller_before cmp front back e a))
      ∙ joined_after (front ++ e ∷ []) back (subst (IsAscending cmp) (sym (append_assoc front (e ∷ []) back)) a)
      ∙ append_assoc front (e ∷ []) back

  -- What a cut left and what it took out are joined to the list that there was.
  pub joined_halves : {Q : Type 0} (order : K → Q → Ordering) (s : List (K × V)) (q : Q) → IsQueryOrder cmp order → IsAscending cmp s
      → joined cmp (below order s q) (not_below order s q) ≡ s
  joined_halves order s q fits a =
      let e = halves_joined cmp order s q fits a in
      joined_after (below order s q) (not_below order s q) (subst (IsAscending cmp) (sym e) a) ∙ e

  -- Where the first list ascends, so does what the two are joined to.
  pub ascending_joined : (s t : List (K × V)) → IsTotalOrder cmp → IsAscending cmp s → IsAscending cmp (joined cmp s t)
  ascending_joined s [] total a = a
  ascending_joined s (e ∷ t) total a = ascending_joined (placed cmp s e) t total (asc_put cmp total s a e.0 e (tied_itself total e.0))
