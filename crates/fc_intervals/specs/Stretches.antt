-- Stretches of points in ascending order: each has its start, its end, which does not lie in it, and a value.
use Rattle.std.specs.Prelude.{◌≡◌, ◌⊎◌, ℕ, ◌+◌, ◌≤◌, Bool, true, ◌&&◌, List, [], ◌∷◌, Option, filter, find}
use Rattle.std.specs.List.{AllByRecursion, list_any}
use Rattle.std.specs.Option.{is_none, option_map}
use Rattle.std.specs.Ordering.{is_lt, is_le}
use Rattle.std.specs.Borrow.{Bor}
use Rattle.std.specs.declared.cmp.Ordering.{Ordering}
use Rattle.std.specs.declared.ops.Range.{Range}
use Rattle.std.specs.declared.cmp.Ordering.TheVariants.{Less}
use Rattle.fc_base.specs.Copies.{SameContents}
use Rattle.fc_base.specs.declared.count.Count.{Count}
use Rattle.fc_map.specs.Counts.{IsBounded}
use Rattle.fc_intervals.specs.declared.stretch.Stretch.{Stretch}

module _ {K : Type 0} (cmp : K → K → Ordering) where
  -- The point lies in the range from a start up to, and without, an end.
  abbrev pub lies : K → K → K → Bool
  lies from to p = is_le (cmp from p) && is_lt (cmp p to)

  -- None of the ranges is empty, and each ends before the next one starts, with at least one point between them.
  abbrev pub AreSeparate : List (Range K) → Type 0
  AreSeparate [] = Unit {0}
  AreSeparate (r ∷ more) = (cmp r.start r.end ≡ Less) × AllByRecursion (λ later. cmp r.end later.start ≡ Less) more × AreSeparate more

module _ {K V : Type 0} (cmp : K → K → Ordering) where
  -- The stretch that covers the point, if one does.
  abbrev pub stretch_at : List (K × Stretch K V) → K → Option (K × Stretch K V)
  stretch_at s p = find (λ e. lies cmp e.0 e.1.end p) s

  -- The value at the point: that of the stretch that covers it.
  abbrev pub value_at_point : List (K × Stretch K V) → K → Option V
  value_at_point s p = option_map (λ e. e.1.value) (stretch_at s p)

  -- Whether the stretch has a point in common with the range from a start up to, and without, an end.
  abbrev pub meets : K → K → K × Stretch K V → Bool
  meets from to e = is_lt (cmp from to) && (is_lt (cmp from e.1.end) && is_lt (cmp e.0 to))

  -- The stretches that have a point in common with the range, in order.
  abbrev pub overlapping : List (K × Stretch K V) → K → K → List (K × Stretch K V)
  overlapping s from to = filter (meets from to) s

  -- The ranges hold just those points of a range that no stretch covers. Since they are separate, each is as long as can be.
  pub record AreGaps (s : List (K × Stretch K V)) (from to : K) (gaps : List (Range K)) : Type 0 where
    pub separate : AreSeparate cmp gaps
    pub points : (p : K) → list_any (λ g. lies cmp g.start g.end p) gaps ≡ (lies cmp from to p && is_none (stretch_at s p))

  -- No stretch is empty, and each ends before those that follow start, or where one does.
  abbrev pub AreApart : List (K × Stretch K V) → Type 0
  AreApart [] = Unit {0}
  AreApart (e ∷ s) = (cmp e.0 e.1.end ≡ Less) × AllByRecursion (λ later. is_le (cmp e.1.end later.0) ≡ true) s × AreApart s

-- There is no value before and after, or there are two, which are one or of which the second is a copy.
abbrev pub IsKept : {V : Type 0} → (V → V → Type 0) → Option V → Option V → Type 0
IsKept same old new = SameContents (λ x y. (y ≡ x) ⊎ same x y) old new

module _ {K V : Type 0} (cmp : K → K → Ordering) (same : V → V → Type 0) where
  -- Each point of the range has the given value, or none where none is given. Each other point has what it had, after the range the same or a copy.
  pub record IsWritten (from to : K) (value : Option V) (old new : List (K × Stretch K V)) : Type 0 where
    pub inside : (p : K) → lies cmp from to p ≡ true → value_at_point cmp new p ≡ value
    pub before : (p : K) → cmp p from ≡ Less → value_at_point cmp new p ≡ value_at_point cmp old p
    pub after : (p : K) → is_le (cmp to p) ≡ true → IsKept same (value_at_point cmp old p) (value_at_point cmp new p)

-- The stretch that a range and a reference to its value show, where there is one.
abbrev pub now_stretch : {K V : Type 0} → Option (Range K × Bor V) → Option (K × Stretch K V)
now_stretch o = option_map (λ r. (r.0.start, record { end = r.0.end; value = r.1.now })) o

-- A look-up among n stretches counts what a look-up of a map of n pairs does, and at most one comparison more.
abbrev pub IsLookUp : ℕ → Count → Count → Type 0
IsLookUp n old new = (found : Count) × IsBounded n old found × (new.comparisons ≤ found.comparisons + 1) × (new.moves ≡ found.moves)
