-- The two sides of a lazy set operation: what is still to come from each, and what a step leaves of them.
use Rattle.std.specs.Prelude.{◌≡◌, ◌⊎◌, ℕ, ◌+◌, ◌/◌, ◌^◌, Bool, List, [], ◌∷◌, Option, Some, None, MatchOption, drop, filter, find, is_none, length, nat_le, nat_lt, if◌then◌else◌}
use Rattle.std.specs.List.{AllByRecursion}
use Rattle.std.specs.Borrow.{Bor}
use Rattle.std.specs.Ordering.{is_ge}
use Rattle.std.specs.declared.cmp.Ordering.{Ordering}
use Rattle.std.specs.declared.cmp.Ordering.TheVariants.{Less, Equal}
use Rattle.fc_set.specs.Items.{greater}
use Rattle.fc_set.specs.Operations.{difference, common}

-- What is still to come from each side of a union or of a symmetric difference.
pub record Sides (T : Type 0) : Type 0 where
  pub left : List T
  pub right : List T

-- What a difference or an intersection has still to try, and what it holds that against: a set that it looks items up in, which stays as it is, or the rest of one that it walks too.
pub record Filtering (T : Type 0) : Type 0 where
  pub left : List T
  pub right : List T
  pub looks_up : Bool

module _ {T : Type 0} where
  -- The items of the first are looked up in a second that is at least sixteen times as long, by number, as it is no size of a node. Else both are walked.
  abbrev pub begin_filtering : List T → List T → Filtering T
  begin_filtering s t = record { left = s; right = t; looks_up = nat_le (length s) (length t / 16) }

  -- The items of the shorter are held against the other: those of the first where both are as long.
  abbrev pub begin_with_shorter : List T → List T → Filtering T
  begin_with_shorter s t = if nat_le (length s) (length t) then begin_filtering s t else begin_filtering t s

  -- How many items both sides have, where a `usize` holds it.
  abbrev pub sum_of_lengths : Sides T → Option ℕ
  sum_of_lengths w = if nat_lt (length w.left + length w.right) (2 ^ 64) then Some (length w.left + length w.right) else None

  module _ (cmp : T → T → Ordering) where
    -- Each side from after an item on.
    abbrev pub after_item : Sides T → T → Sides T
    after_item w x = record { left = greater cmp w.left x; right = greater cmp w.right x }

    -- The same, where a set that is looked up in stays.
    abbrev pub filtered_after : Filtering T → T → Filtering T
    filtered_after w x = record { left = greater cmp w.left x; right = if w.looks_up then w.right else greater cmp w.right x; looks_up = w.looks_up }

    -- What a walk over both leaves of the first where no item has an equal: it takes the first item that is greater than all of the second, or ends with the first.
    abbrev pub untaken : List T → List T → List T
    untaken s t = drop 1 (filter (λ x. is_none (find (λ y. is_ge (cmp y x)) t)) s)

    -- A walk over both gave the next item that the second has not, and is after it on both sides. Or it came to the end of the first.
    abbrev pub GivesApart : List T → List T → Option (Bor T) → List T → List T → Type 0
    GivesApart s t r rest others = MatchOption r ((difference cmp s t ≡ []) × (rest ≡ []))
        (λ x. (difference cmp s t ≡ x.now ∷ difference cmp rest others) × (rest ≡ greater cmp s x.now) × (others ≡ greater cmp t x.now))

    -- A walk gave the next item of an operation whose second side it looks items up in, and is after it. Or it came to its end.
    abbrev pub GivesLookedUp : (List T → List T → List T) → List T → List T → Option (Bor T) → List T → Type 0
    GivesLookedUp operation s t r rest = MatchOption r ((operation s t ≡ []) × (rest ≡ [])) (λ x. (operation s t ≡ x.now ∷ operation rest t) × (rest ≡ greater cmp s x.now))

    -- A walk over both gave the next item that both hold, and is after it on both sides. Or it came to the end of one.
    abbrev pub GivesCommon : List T → List T → Option (Bor T) → List T → List T → Type 0
    GivesCommon s t r rest others = MatchOption r ((common cmp s t ≡ []) × (common cmp rest others ≡ []) × (rest ≡ untaken s t) × ((rest ≡ []) ⊎ (others ≡ [])))
        (λ x. (common cmp s t ≡ x.now ∷ common cmp rest others) × (rest ≡ greater cmp s x.now) × (others ≡ greater cmp t x.now))

    -- The least of both sides, or both where they are equal, was taken, and this is left.
    abbrev pub AreFirsts : Option T → Option T → Sides T → Type 0
    AreFirsts None None w = (w.left ≡ []) × (w.right ≡ [])
    AreFirsts (Some x) None w = AllByRecursion (λ y. cmp x y ≡ Less) w.left × AllByRecursion (λ y. cmp x y ≡ Less) w.right
    AreFirsts None (Some y) w = AllByRecursion (λ x. cmp y x ≡ Less) w.left × AllByRecursion (λ x. cmp y x ≡ Less) w.right
    AreFirsts (Some x) (Some y) w = (cmp x y ≡ Equal) × AllByRecursion (λ z. cmp x z ≡ Less) w.left × AllByRecursion (λ z. cmp y z ≡ Less) w.right
