-- What the contracts of an entry cite. The words serve its two kinds too, as `entry_key (Vacant e)`.
pub use Rattle.fc_map.specs.declared.map.entry.Entry.TheVariants.{Occupied, Vacant}
use Rattle.std.specs.Prelude.{◌≡◌, ℕ, List, [], ◌∷◌, ◌++◌, Option, None, Some, Result}
use Rattle.std.specs.Option.{option_map}
use Rattle.std.specs.Borrow.{Fml, RattleType, MutBor, follows, LendsSoOk, RestsIfErr, RestsIfNone}
use Rattle.core.specs.declared.alloc.Allocator.{Ghosts}
use Rattle.std.specs.declared.alloc.Global.{Global}
use Rattle.std.specs.contracts.alloc.Global as global
use Rattle.std.specs.contracts.impls.GlobalAllocator.TheImpl.{ghosts}
use Rattle.std.specs.declared.cmp.Ord as ord
use Rattle.std.specs.declared.cmp.PartialEq as eq
use Rattle.std.specs.declared.cmp.PartialOrd as partial
use mir.Syntax.{named}
use Rattle.fc_map.specs.Entries.{Map, entries, IsSoundMap}
use Rattle.fc_tree_node.specs.TreePlace.{pair_in, before_gap_in, after_gap_in, before_pair_in, after_pair_in}
use Rattle.fc_map.specs.Lends.{written_in}
use Rattle.fc_map.specs.declared.map.entry.Entry.{Entry}
use Rattle.fc_map.specs.declared.map.entry.OccupiedEntry.{OccupiedEntry}
use Rattle.fc_map.specs.contracts.map.BTreeMap.{the_row}
use Rattle.fc_map.specs.contracts.map.entry.OccupiedEntry as occupied

module _ {K V Z : Type 0} {g : ord.Ghosts K} {g' : eq.Ghosts K} {g'' : partial.Ghosts K} where
  -- The reference to the map.
  abbrev pub entry_map_ref : Entry K V Z g g' g'' → MutBor (Map K V Z)
  entry_map_ref (Vacant e) = e.map
  entry_map_ref (Occupied o) = o.map

  -- The map, as the entry holds it.
  abbrev pub entry_map : Entry K V Z g g' g'' → Map K V Z
  entry_map e = (entry_map_ref e).now

  -- The path of the search that found the place: to the pair, or to the gap of a leaf.
  abbrev pub entry_path : Entry K V Z g g' g'' → List ℕ
  entry_path (Vacant e) = e.path
  entry_path (Occupied o) = o.path

  -- The pair that is there, if there is one.
  abbrev pub entry_pair : Entry K V Z g g' g'' → Option (K × V)
  entry_pair (Vacant e) = None
  entry_pair (Occupied o) = pair_in o.map.now o.path

  -- The value that is there, if there is one.
  abbrev pub entry_value : Entry K V Z g g' g'' → Option V
  entry_value e = option_map (λ p. p.1) (entry_pair e)

  -- The key that is there, and else the one that was searched for.
  abbrev pub entry_key : Entry K V Z g g' g'' → Option K
  entry_key (Vacant e) = Some e.key
  entry_key (Occupied o) = option_map (λ p. p.0) (pair_in o.map.now o.path)

  -- The map with v in the pair of an occupied entry: the tree keeps its shape.
  abbrev pub map_written : OccupiedEntry K V Z g g' g'' → V → Map K V Z
  map_written o v = written_in o.map.now o.path v

  -- The pairs of the map, once v is the value at the entry's key.
  abbrev pub list_with : Entry K V Z g g' g'' → V → List (K × V)
  list_with (Vacant e) v = before_gap_in e.map.now e.path ++ (e.key, v) ∷ after_gap_in e.map.now e.path
  list_with (Occupied o) v = entries (map_written o v)

  -- The pairs of the map, once there is none at the entry's key.
  abbrev pub list_without : Entry K V Z g g' g'' → List (K × V)
  list_without (Vacant e) = entries e.map.now
  list_without (Occupied o) = before_pair_in o.map.now o.path ++ after_pair_in o.map.now o.path

  -- An occupied entry, once v is its value.
  abbrev pub with_entry_value : OccupiedEntry K V Z g g' g'' → V → OccupiedEntry K V Z g g' g''
  with_entry_value o v = record {
    map = record o.map { now = map_written o v };
    path = o.path;
    place = λ values. o.place (v ∷ values);
  }

  -- The new entry is the old one, once v is its value.
  abbrev pub IsWritten : OccupiedEntry K V Z g g' g'' → V → OccupiedEntry K V Z g g' g'' → Type 0
  IsWritten old v new = (new.map.ghost_name ≡ old.map.ghost_name) × (new.map.now ≡ map_written old v) × (entry_key (Occupied new) ≡ entry_key (Occupied old)) × (entry_value (Occupied new) ≡ Some v)
      × ((w : V) → list_with (Occupied new) w ≡ list_with (Occupied old) w) × (list_without (Occupied new) ≡ list_without (Occupied old))

  -- The entry is the first pair of the list: what is left without it, and what stands before that with v in it.
  abbrev pub IsFirstOf : OccupiedEntry K V Z g g' g'' → List (K × V) → Type 0
  IsFirstOf o s = (p : K × V) × (entry_pair (Occupied o) ≡ Some p) × (s ≡ p ∷ list_without (Occupied o)) × ((v : V) → list_with (Occupied o) v ≡ (p.0, v) ∷ list_without (Occupied o))

  -- The entry is the last pair of the list.
  abbrev pub IsLastOf : OccupiedEntry K V Z g g' g'' → List (K × V) → Type 0
  IsLastOf o s = (p : K × V) × (entry_pair (Occupied o) ≡ Some p) × (s ≡ list_without (Occupied o) ++ p ∷ []) × ((v : V) → list_with (Occupied o) v ≡ list_without (Occupied o) ++ (p.0, v) ∷ [])

  -- The entry is the first pair after those before it: what is left without it, and what stands there with v in it.
  abbrev pub IsFirstAfter : OccupiedEntry K V Z g g' g'' → List (K × V) → List (K × V) → Type 0
  IsFirstAfter o before after = (p : K × V) × (rest : List (K × V)) × (entry_pair (Occupied o) ≡ Some p) × (after ≡ p ∷ rest)
      × (list_without (Occupied o) ≡ before ++ rest) × ((v : V) → list_with (Occupied o) v ≡ before ++ (p.0, v) ∷ rest)

  -- The entry is the last pair before those after.
  abbrev pub IsLastBefore : OccupiedEntry K V Z g g' g'' → List (K × V) → List (K × V) → Type 0
  IsLastBefore o before after = (p : K × V) × (lead : List (K × V)) × (entry_pair (Occupied o) ≡ Some p) × (before ≡ lead ++ p ∷ [])
      × (list_without (Occupied o) ≡ lead ++ after) × ((v : V) → list_with (Occupied o) v ≡ lead ++ (p.0, v) ∷ after)

module _ (K V Z : RattleType) {g : ord.Ghosts K.Denot} {g' : eq.Ghosts K.Denot} {g'' : partial.Ghosts K.Denot} (heap : Ghosts Z.Denot) where
  -- Once the borrow r ends, the map has the last value written through r in the entry's pair.
  abbrev pub occupied_lends_whole_in : OccupiedEntry K.Denot V.Denot Z.Denot g g' g'' → MutBor V.Denot → Fml
  occupied_lends_whole_in o r = follows (the_row K V Z g g' g'' heap) V o.map.ghost_name r.ghost_name (map_written o)

  -- Once the borrow r ends, the entry after o has the last value written through r. Its lifetime is the second of the signature.
  abbrev pub occupied_lends_in : MutBor (OccupiedEntry K.Denot V.Denot Z.Denot g g' g'') → MutBor V.Denot → Fml
  occupied_lends_in o r = follows (occupied.the_row (record { mir = named 1; lft = [] }) K V Z g g' g'' heap) V o.ghost_name r.ghost_name (with_entry_value o.now)

  -- Once the borrow r ends, the map's pairs are those with the last value written through r at the entry's key; where there is
  -- none, the map stays as it is.
  abbrev pub entry_lends_ok_in : {E : Type 0} → Entry K.Denot V.Denot Z.Denot g g' g'' → Result (MutBor V.Denot) E → Fml
  entry_lends_ok_in e r = LendsSoOk (the_row K V Z g g' g'' heap) V (entry_map_ref e) r (λ n w. (entries n ≡ list_with e w) × IsSoundMap n) (λ n. n ≡ entry_map e)

  -- Where r has no entry, the map after m stays as it is.
  abbrev pub rests_if_refused_in : {E : Type 0} → MutBor (Map K.Denot V.Denot Z.Denot) → Result (Entry K.Denot V.Denot Z.Denot g g' g'') E → Fml
  rests_if_refused_in m r = RestsIfErr (the_row K V Z g g' g'' heap) m (λ e. (entry_map_ref e).ghost_name) r (λ n. n ≡ m.now)

  -- Where r has no entry, the map after m stays as it is.
  abbrev pub rests_if_none_in : MutBor (Map K.Denot V.Denot Z.Denot) → Option (OccupiedEntry K.Denot V.Denot Z.Denot g g' g'') → Fml
  rests_if_none_in m r = RestsIfNone (the_row K V Z g g' g'' heap) m (λ o. o.map.ghost_name) r (λ n. n ≡ m.now)

-- The same of entries of a map that takes its memory from `Global`.
module _ (K V : RattleType) {g : ord.Ghosts K.Denot} {g' : eq.Ghosts K.Denot} {g'' : partial.Ghosts K.Denot} where
  abbrev pub occupied_lends_whole : OccupiedEntry K.Denot V.Denot Global g g' g'' → MutBor V.Denot → Fml
  occupied_lends_whole o r = occupied_lends_whole_in K V global.the_row ghosts o r

  abbrev pub occupied_lends : MutBor (OccupiedEntry K.Denot V.Denot Global g g' g'') → MutBor V.Denot → Fml
  occupied_lends o r = occupied_lends_in K V global.the_row ghosts o r

  abbrev pub entry_lends_ok : {E : Type 0} → Entry K.Denot V.Denot Global g g' g'' → Result (MutBor V.Denot) E → Fml
  entry_lends_ok e r = entry_lends_ok_in K V global.the_row ghosts e r

  abbrev pub rests_if_refused : {E : Type 0} → MutBor (Map K.Denot V.Denot Global) → Result (Entry K.Denot V.Denot Global g g' g'') E → Fml
  rests_if_refused m r = rests_if_refused_in K V global.the_row ghosts m r

  abbrev pub rests_if_none : MutBor (Map K.Denot V.Denot Global) → Option (OccupiedEntry K.Denot V.Denot Global g g' g'') → Fml
  rests_if_none m r = rests_if_none_in K V global.the_row ghosts m r
