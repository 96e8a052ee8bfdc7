-- What the set operations make of ascending lists ascends.
use Rattle.std.proofs.Common.{◌≡◌, List, [], ◌∷◌, map, length, true, false, refl, sym, ap, ◌∙◌, subst}
use Rattle.std.specs.Prelude.{nat_le, if◌then◌else◌}
use Rattle.std.specs.List.{AllByRecursion}
use Rattle.std.specs.Cmp.{IsTotalOrder}
use Rattle.std.specs.declared.cmp.Ordering.{Ordering}
use Rattle.std.specs.declared.cmp.Ordering.TheVariants.{Less}
use Rattle.fc_base.specs.Ascending.{IsAscending}
use Rattle.fc_base.specs.Joined.{joined}
use Rattle.fc_base.proofs.JoinedLaws.{ascending_joined}
use Rattle.fc_set.specs.Items.{AreAscending, joined_items}
use Rattle.fc_set.specs.Operations.{difference, symmetric_difference, common, intersection, union}
use Rattle.fc_set.proofs.ItemFacts.{keys, joined_keys, ascending_keys}
use Rattle.fc_set.proofs.SideFacts.{ascending_kept}

-- Items as the keys of pairs.
module _ {T : Type 0} where
  abbrev paired : List T → List (T × Unit {0})
  paired s = map (λ x. (x, tt)) s

  keys_paired : (s : List T) → keys (paired s) ≡ s
  keys_paired [] = refl
  keys_paired (x ∷ s) = ap (λ l. x ∷ l) (keys_paired s)

  all_paired : (P : T → Type 0) (s : List T) → AllByRecursion P s → AllByRecursion (λ e. P e.0) (paired s)
  all_paired P [] a = tt
  all_paired P (x ∷ s) a = (a.0, all_paired P s a.1)

module _ {T : Type 0} (cmp : T → T → Ordering) where
  ascending_paired : (s : List T) → AreAscending cmp s → IsAscending cmp (paired s)
  ascending_paired [] a = tt
  ascending_paired (x ∷ s) a = (all_paired (λ later. cmp x later ≡ Less) s a.0, ascending_paired s a.1)

  joined_paired : (s t : List T) → keys (joined cmp (paired s) (paired t)) ≡ joined_items cmp s t
  joined_paired s t = sym (joined_keys cmp (paired s) (paired t)) ∙ ap (λ l. joined_items cmp l (keys (paired t))) (keys_paired s)
      ∙ ap (joined_items cmp s) (keys_paired t)

  ascending_joined_items : (s t : List T) → IsTotalOrder cmp → AreAscending cmp s → AreAscending cmp (joined_items cmp s t)
  ascending_joined_items s t total a =
      subst (AreAscending cmp) (joined_paired s t) (ascending_keys cmp (joined cmp (paired s) (paired t))
      (ascending_joined cmp (paired s) (paired t) total (ascending_paired s a)))

  pub ascending_difference : (s t : List T) → AreAscending cmp s → AreAscending cmp (difference cmp s t)
  ascending_difference s t a = ascending_kept cmp _ s a

  pub ascending_symmetric_difference : (s t : List T) → IsTotalOrder cmp → AreAscending cmp s → AreAscending cmp (symmetric_difference cmp s t)
  ascending_symmetric_difference s t total a = ascending_joined_items (difference cmp s t) (difference cmp t s) total (ascending_difference s t a)

  pub ascending_intersection : (s t : List T) → AreAscending cmp s → AreAscending cmp t → AreAscending cmp (intersection cmp s t)
  ascending_intersection s t a b =
      elim (nat_le (length s) (length t)) as (λ r. AreAscending cmp (if r then common cmp s t else common cmp t s))
      [ true ↦ ascending_kept cmp _ s a | false ↦ ascending_kept cmp _ t b ]

  pub ascending_union : (s t : List T) → IsTotalOrder cmp → AreAscending cmp t → AreAscending cmp (union cmp s t)
  ascending_union s t total b = ascending_joined_items t s total b
