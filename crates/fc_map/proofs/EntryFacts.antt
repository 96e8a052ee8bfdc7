-- What the place of a key says of a map's list.
use Rattle.std.proofs.Common.{◌≡◌, ℕ, List, [], ◌∷◌, ◌++◌, Some, None, refl, sym, ap, ◌∙◌}
use Rattle.std.specs.declared.cmp.Ord as ord
use Rattle.std.specs.declared.cmp.PartialEq as eq
use Rattle.std.specs.declared.cmp.PartialOrd as partial
use Rattle.std.specs.Prelude.{unwrap_or}
use Rattle.std.specs.Option.{option_map}
use Rattle.std.specs.declared.cmp.Ordering.{Ordering}
use Rattle.fc_base.specs.OneKey.{put, cut}
use Rattle.fc_base.specs.Parts.{at}
use Rattle.fc_tree_search.specs.Written.{written}
use Rattle.fc_tree_node.proofs.Gaps.{place_pairs}
use Rattle.fc_tree_search.proofs.SearchFacts.{gap_put, found_cut}
use Rattle.fc_tree_search.proofs.WrittenPairs.{written_levels, written_at, written_pairs, written_place}
use Rattle.fc_map.specs.Entries.{Map, entries, IsSoundMap}
use Rattle.fc_tree_node.specs.TreePlace.{pair_in, IsPlaceIn, before_gap_in, after_gap_in, before_pair_in, after_pair_in}
use Rattle.fc_map.specs.Lends.{written_in}
use Rattle.fc_map.specs.Place.{IsHeldAt, IsOpenAt, IsPutIn}
use Rattle.fc_map.specs.KeptPlace.{IsKeptPlace, all_written}
use Rattle.fc_map.specs.Entry.{map_written, with_entry_value}
use Rattle.fc_map.specs.Unique.{kept-prop}
use Rattle.fc_map.specs.declared.map.entry.OccupiedEntry.{OccupiedEntry}
use Rattle.fc_map.proofs.PlaceFacts.{held_pair, open_none}

module _ {K Q V Z : Type 0} (cmp : K → Q → Ordering) (k : Q) where
  pub held_place : (m : Map K V Z) (path : List ℕ) → IsHeldAt cmp k m path → IsPlaceIn m path
  held_place None path held = absurd held
  held_place (Some root) path held = held.place

  pub held_cut : (m : Map K V Z) (path : List ℕ) → IsSoundMap m → IsHeldAt cmp k m path → before_pair_in m path ++ after_pair_in m path ≡ cut cmp (entries m) k
  held_cut None path sound held = absurd held
  held_cut (Some root) path sound held = sym (found_cut cmp k path sound.0 root sound.2.1 held)

module _ {K V Z : Type 0} (cmp : K → K → Ordering) (k : K) where
  -- The key that `put` leaves in a map's list.
  abbrev pub left_key : Map K V Z → K
  left_key m = unwrap_or (option_map (λ p. p.0) (at cmp (entries m) k)) k

  pub open_key : (m : Map K V Z) (path : List ℕ) → IsSoundMap m → IsOpenAt cmp k m path → Some k ≡ Some (left_key m)
  open_key m path sound gap = rw (open_none cmp k m path sound gap) refl

  pub held_key : (m : Map K V Z) (path : List ℕ) → IsSoundMap m → IsHeldAt cmp k m path → option_map (λ p. p.0) (pair_in m path) ≡ Some (left_key m)
  held_key None path sound held = absurd held
  held_key (Some root) path sound held =
      let c = place_pairs path sound.0 root sound.2.1 held.place in
      ap (option_map (λ p. p.0)) c.is ∙ rw (held_pair cmp k (Some root) path sound held ∙ c.is) refl

  pub open_put : (m : Map K V Z) (path : List ℕ) (v : V) → IsSoundMap m → IsOpenAt cmp k m path
      → before_gap_in m path ++ (k, v) ∷ after_gap_in m path ≡ put cmp (entries m) k v
  open_put None path v sound gap = refl
  open_put (Some root) path v sound gap = sym (gap_put cmp k path sound.0 root v sound.2.1 gap)

-- An entry's map in which a value was written at its place.
module _ {K V Z : Type 0} where
  place_stays : (m : Map K V Z) (path : List ℕ) (v : V) → IsPlaceIn m path → IsPlaceIn (written_in m path v) path
  place_stays None path v p = p
  place_stays (Some root) path v p = written_place path root v p

  -- A place stays one, whatever values are written there.
  pub kept_place : (m : Map K V Z) (path : List ℕ) → IsPlaceIn m path → (values : List V) → IsPlaceIn (all_written m path values) path
  kept_place m path p [] = p
  kept_place m path p (v ∷ values) = kept_place (written_in m path v) path (place_stays m path v p) values

  -- What another value at a place leaves of what can be seen there.
  pub record IsRewritten (m : Map K V Z) (path : List ℕ) (v : V) : Type 0 where
    pub key_is : option_map (λ p. p.0) (pair_in (written_in m path v) path) ≡ option_map (λ p. p.0) (pair_in m path)
    pub value_is : option_map (λ p. p.1) (pair_in (written_in m path v) path) ≡ Some v
    pub again : (w : V) → entries (written_in (written_in m path v) path w) ≡ entries (written_in m path w)
    pub sides : before_pair_in (written_in m path v) path ++ after_pair_in (written_in m path v) path ≡ before_pair_in m path ++ after_pair_in m path

  pub rewritten : (m : Map K V Z) (path : List ℕ) (v : V) → IsSoundMap m → IsPlaceIn m path → IsRewritten m path v
  rewritten None path v sound place = absurd place
  rewritten (Some root) path v sound place =
      let c = place_pairs path sound.0 root sound.2.1 place in
      let a = written_at path root c.pair v place c.is in
      let l = written_levels path sound.0 root v sound.2.1 in
      record {
        key_is = ap (option_map (λ p. p.0)) a.pair ∙ sym (ap (option_map (λ p. p.0)) c.is);
        value_is = ap (option_map (λ p. p.1)) a.pair;
        again = λ w. written_pairs path sound.0 (written root path v) (c.pair.0, v) w l a.place a.pair ∙ rw (a.before, a.after) refl
            ∙ sym (written_pairs path sound.0 root c.pair w sound.2.1 place c.is);
        sides = rw (a.before, a.after) refl;
      }

  -- The list of a map with another value in a pair that stands between known pairs.
  pub put_written : (m : Map K V Z) (path : List ℕ) (k : K) (v w : V) (front back : List (K × V)) → IsSoundMap m → IsPutIn path m (k, v) front back
      → entries (written_in m path w) ≡ front ++ (k, w) ∷ back
  put_written None path k v w front back sound put = absurd put
  put_written (Some root) path k v w front back sound put = written_pairs path sound.0 root (k, v) w sound.2.1 put.place put.pair_is
      ∙ rw (put.before, put.after) refl

  pub put_place : (m : Map K V Z) (path : List ℕ) (p : K × V) (front back : List (K × V)) → IsPutIn path m p front back
      → IsPlaceIn m path × (pair_in m path ≡ Some p)
  put_place None path p front back put = absurd put
  put_place (Some root) path p front back put = (put.place, put.pair_is)

module _ {K V Z : Type 0} {g : ord.Ghosts K} {g' : eq.Ghosts K} {g'' : partial.Ghosts K} where
  pub occupied_written : (o : OccupiedEntry K V Z g g' g'') (v : V) (p : IsKeptPlace (map_written o v) o.path)
      → record { map = record o.map { now = map_written o v }; path = o.path; place = p } ≡ with_entry_value o v
  occupied_written o v p = ap (λ q. record (with_entry_value o v) { place = q }) (kept-prop (map_written o v) o.path p (with_entry_value o v).place)
