-- A map whose first or last pair was taken out.
use Rattle.std.proofs.Common.{◌≡◌, ℕ, ◌+◌, ◌*◌, ◌≤◌, [], ◌∷◌, ◌++◌, length, true, Some, None, ap, subst, ◌∙◌, append-nil, length-append}
use Rattle.std.specs.Option.{is_some}
use Rattle.std.specs.declared.cmp.Ordering.{Ordering}
use Rattle.std.proofs.lemmas.Bool.{false≢true}
use Rattle.fc_base.specs.Sizes.{level_moves}
use Rattle.fc_base.specs.declared.count.Count.{Count}
use Rattle.fc_base.specs.Ascending.{IsAscending}
use Rattle.fc_tree_removal.specs.Removal.{IsSoundTree, IsTreeLeft}
use Rattle.fc_map.specs.Counts.{IsBounded}
use Rattle.fc_map.specs.Entries.{Map, entries, IsSoundMap}
use Rattle.fc_map.proofs.CountFacts.{some_pairs, only_moved}
use Rattle.fc_map.proofs.RemoveFacts.{left_sound, left_moves, without_ascending}

module _ {K V Z : Type 0} where
  -- What is left of a sound map is sound.
  pub popped_sound : (m left : Map K V Z) → IsSoundMap m → is_some m ≡ true → ((h : ℕ) → IsSoundTree h m → IsTreeLeft h left) → IsSoundMap left
  popped_sound None left sound some levels = absurd (false≢true some)
  popped_sound (Some root) left sound some levels = left_sound sound.0 left sound.1 (levels sound.0 sound.2)

  -- Without its last pair the list ascends, and is shorter by one.
  pub last_popped : (cmp : K → K → Ordering) (m left : Map K V Z) (e : K × V) → IsAscending cmp (entries m) → entries m ≡ entries left ++ e ∷ []
      → IsAscending cmp (entries left) × (length (entries m) ≡ length (entries left) + 1)
  last_popped cmp m left e ascending p = (
    subst (IsAscending cmp) (append-nil (entries left)) (without_ascending cmp (entries left) [] e (subst (IsAscending cmp) p ascending)),
    ap length p ∙ length-append (entries left) (e ∷ []),
  )

  -- What a removal at an end costs.
  pub popped_cost : (m : Map K V Z) → IsSoundMap m → is_some m ≡ true → (old new : Count) → new.comparisons ≡ old.comparisons
      → ((h : ℕ) → IsSoundTree h m → new.moves ≤ old.moves + level_moves * (h + 1)) → IsBounded (length (entries m)) old new
  popped_cost None sound some old new same few = absurd (false≢true some)
  popped_cost (Some root) sound some old new same few =
      only_moved (length (entries (Some root))) old new (some_pairs sound.0 root sound.2) same (left_moves root sound old new (few sound.0 sound.2))
