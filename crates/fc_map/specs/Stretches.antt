-- What the contracts of writing walks over a map cite.
use Rattle.std.specs.Prelude.{◌≡◌, ◌-◌, ◌<◌, ◌≤◌, List, [], length, take, drop, slice_get, Option, Some, MatchOption}
use Rattle.std.specs.Borrow.{Fml, RattleType, Bor, MutBor, follows_so}
use Rattle.std.specs.Option.{OnSome, IfNone, ghost_name_of, option_map}
use Rattle.core.specs.declared.alloc.Allocator.{Ghosts}
use Rattle.std.specs.declared.alloc.Global.{Global}
use Rattle.std.specs.contracts.alloc.Global as global
use Rattle.std.specs.contracts.impls.GlobalAllocator.TheImpl.{ghosts}
use Rattle.std.specs.declared.cmp.Ord as ord
use Rattle.std.specs.declared.cmp.PartialEq as eq
use Rattle.std.specs.declared.cmp.PartialOrd as partial
use mir.Syntax.{named}
pub use Rattle.fc_tree_for_each.specs.Visits.{CalledAtPair, IsVisited}
use Rattle.fc_tree_cursor.specs.Leaf.{advanced}
use Rattle.fc_map.specs.Entries.{Map, entries}
use Rattle.fc_tree_node.specs.TreePlace.{before_gap_in}
use Rattle.fc_map.specs.Writing.{Stretch, wrote_first, wrote_last}
use Rattle.fc_map.specs.declared.map.range_mut.RangeMut.{RangeMut}
use Rattle.fc_map.specs.declared.map.iter_mut.IterMut.{IterMut}
use Rattle.fc_map.specs.contracts.map.range_mut.RangeMut as range
use Rattle.fc_map.specs.contracts.map.iter_mut.IterMut as iter

module _ {K V : Type 0} where
  -- The value at the first place not yet lent, and `None` exactly where there is none.
  abbrev pub IsFirstValue : Stretch K V → Option (MutBor V) → Type 0
  IsFirstValue t r = MatchOption r (t.back ≤ t.front) (λ v. (t.front < t.back) × (option_map (λ p. p.1) (slice_get t.list t.front) ≡ Some v.now))

  -- The value at the last place not yet lent, and `None` exactly where there is none.
  abbrev pub IsLastValue : Stretch K V → Option (MutBor V) → Type 0
  IsLastValue t r = MatchOption r (t.back ≤ t.front) (λ v. (t.front < t.back) × (option_map (λ p. p.1) (slice_get t.list (t.back - 1)) ≡ Some v.now))

  -- The pair at the first place not yet lent, and `None` exactly where there is none.
  abbrev pub IsFirstPair : Stretch K V → Option (Bor K × Bor V) → Type 0
  IsFirstPair t r = MatchOption r (t.back ≤ t.front) (λ p. (t.front < t.back) × (slice_get t.list t.front ≡ Some (p.0.now, p.1.now)))

  -- The pair at the last place not yet lent, and `None` exactly where there is none.
  abbrev pub IsLastPair : Stretch K V → Option (Bor K × Bor V) → Type 0
  IsLastPair t r = MatchOption r (t.back ≤ t.front) (λ p. (t.front < t.back) × (slice_get t.list (t.back - 1) ≡ Some (p.0.now, p.1.now)))

-- Calls by R in turn, from the state f on, were made at the pairs not yet lent, and ys is the list with the values that they left.
abbrev pub IsVisitedIn : {F K V : Type 0} → (F → K × V → F → V → Type 0) → F → Stretch K V → List (K × V) → Type 0
IsVisitedIn {F} R f t ys = (last : F) × IsVisited R f last (take t.front t.list) (drop t.back t.list) t.list ys

module _ {K V Z : Type 0} {g : ord.Ghosts K} {g' : eq.Ghosts K} {g'' : partial.Ghosts K} where
  -- The reference to the map.
  abbrev pub range_map_ref : RangeMut K V Z g g' g'' → MutBor (Map K V Z)
  range_map_ref w = w.map

  -- The map's list as it stands, and the places not yet lent.
  abbrev pub stretch : RangeMut K V Z g g' g'' → Stretch K V
  stretch w = record { list = entries w.map.now; front = length (before_gap_in w.map.now (advanced w.front w.gone)); back = length (before_gap_in w.map.now w.back) }

  -- The same of a walk over all values.
  abbrev pub iter_map_ref : IterMut K V Z g g' g'' → MutBor (Map K V Z)
  iter_map_ref w = w.map

  abbrev pub iter_stretch : IterMut K V Z g g' g'' → Stretch K V
  iter_stretch w = record { list = entries w.map.now; front = length (before_gap_in w.map.now (advanced w.front w.gone)); back = length (before_gap_in w.map.now w.back) }

module _ (K V Z : RattleType) {g : ord.Ghosts K.Denot} {g' : eq.Ghosts K.Denot} {g'' : partial.Ghosts K.Denot} (heap : Ghosts Z.Denot) where
  -- Once the borrow r ends, the first place has the last value written through r, and is lent; at `None` nothing changes. The
  -- walk's lifetime is the second of the signature.
  abbrev pub range_lends_first_in : MutBor (RangeMut K.Denot V.Denot Z.Denot g g' g'') → Option (MutBor V.Denot) → Fml
  range_lends_first_in s r = follows_so (range.the_row (record { mir = named 1; lft = [] }) K V Z g g' g'' heap) V s.ghost_name (ghost_name_of r)
      (λ w n. OnSome r (((range_map_ref n).ghost_name ≡ (range_map_ref s.now).ghost_name) × (stretch n ≡ wrote_first (stretch s.now) w)))
      (λ n. IfNone r (n ≡ s.now))

  -- The same at the last place.
  abbrev pub range_lends_last_in : MutBor (RangeMut K.Denot V.Denot Z.Denot g g' g'') → Option (MutBor V.Denot) → Fml
  range_lends_last_in s r = follows_so (range.the_row (record { mir = named 1; lft = [] }) K V Z g g' g'' heap) V s.ghost_name (ghost_name_of r)
      (λ w n. OnSome r (((range_map_ref n).ghost_name ≡ (range_map_ref s.now).ghost_name) × (stretch n ≡ wrote_last (stretch s.now) w)))
      (λ n. IfNone r (n ≡ s.now))

  -- The same of the walk over all pairs, at its first place.
  abbrev pub iter_lends_first_in : MutBor (IterMut K.Denot V.Denot Z.Denot g g' g'') → Option (MutBor V.Denot) → Fml
  iter_lends_first_in s r = follows_so (iter.the_row (record { mir = named 1; lft = [] }) K V Z g g' g'' heap) V s.ghost_name (ghost_name_of r)
      (λ w n. OnSome r (((iter_map_ref n).ghost_name ≡ (iter_map_ref s.now).ghost_name) × (iter_stretch n ≡ wrote_first (iter_stretch s.now) w)))
      (λ n. IfNone r (n ≡ s.now))

  -- And at its last place.
  abbrev pub iter_lends_last_in : MutBor (IterMut K.Denot V.Denot Z.Denot g g' g'') → Option (MutBor V.Denot) → Fml
  iter_lends_last_in s r = follows_so (iter.the_row (record { mir = named 1; lft = [] }) K V Z g g' g'' heap) V s.ghost_name (ghost_name_of r)
      (λ w n. OnSome r (((iter_map_ref n).ghost_name ≡ (iter_map_ref s.now).ghost_name) × (iter_stretch n ≡ wrote_last (iter_stretch s.now) w)))
      (λ n. IfNone r (n ≡ s.now))

-- The same of walks over a map that takes its memory from `Global`.
module _ (K V : RattleType) {g : ord.Ghosts K.Denot} {g' : eq.Ghosts K.Denot} {g'' : partial.Ghosts K.Denot} where
  abbrev pub range_lends_first : MutBor (RangeMut K.Denot V.Denot Global g g' g'') → Option (MutBor V.Denot) → Fml
  range_lends_first s r = range_lends_first_in K V global.the_row ghosts s r

  abbrev pub range_lends_last : MutBor (RangeMut K.Denot V.Denot Global g g' g'') → Option (MutBor V.Denot) → Fml
  range_lends_last s r = range_lends_last_in K V global.the_row ghosts s r

  abbrev pub iter_lends_first : MutBor (IterMut K.Denot V.Denot Global g g' g'') → Option (MutBor V.Denot) → Fml
  iter_lends_first s r = iter_lends_first_in K V global.the_row ghosts s r

  abbrev pub iter_lends_last : MutBor (IterMut K.Denot V.Denot Global g g' g'') → Option (MutBor V.Denot) → Fml
  iter_lends_last s r = iter_lends_last_in K V global.the_row ghosts s r
