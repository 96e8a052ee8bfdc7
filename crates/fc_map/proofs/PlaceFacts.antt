-- What a search of a map found.
use Rattle.std.proofs.Common.{◌≡◌, ℕ, List, length, Some, None, Result, Ok, Err, IsSome, refl, ◌∙◌}
use Rattle.std.specs.Prelude.{OnOk, OnErr}
use Rattle.std.specs.declared.cmp.Ordering.{Ordering}
use Rattle.fc_base.specs.OneKey.{put_by, cut}
use Rattle.fc_base.specs.Parts.{at}
use Rattle.fc_tree_node.proofs.Bare.{same_length, same_root}
use Rattle.fc_tree_node.proofs.BlockFacts.{same_blocks}
use Rattle.fc_tree_node.proofs.Gaps.{gap_pairs, place_pairs}
use Rattle.fc_tree_search.specs.Written.{written}
use Rattle.fc_tree_search.proofs.SearchFacts.{found_at, gap_at}
use Rattle.fc_tree_search.proofs.WrittenPairs.{bare_written, written_put}
use Rattle.fc_map.specs.Entries.{Map, entries, IsSoundMap}
use Rattle.fc_tree_node.specs.TreePlace.{pair_in}
use Rattle.fc_map.specs.Lends.{written_in}
use Rattle.fc_map.specs.Place.{IsHeldAt, IsOpenAt}
use Rattle.fc_map.specs.Kept.{blocks_in}

module _ {K Q V Z : Type 0} (cmp : K → Q → Ordering) (k : Q) where
  -- The pair that the path leads to is the one with an equal key.
  pub held_pair : (m : Map K V Z) (path : List ℕ) → IsSoundMap m → IsHeldAt cmp k m path → at cmp (entries m) k ≡ pair_in m path
  held_pair None path sound held = absurd held
  held_pair (Some root) path sound held = (found_at cmp k path sound.0 root sound.2.1 held).here

  pub held_some : (m : Map K V Z) (path : List ℕ) → IsSoundMap m → IsHeldAt cmp k m path → IsSome (at cmp (entries m) k)
  held_some None path sound held = absurd held
  held_some (Some root) path sound held =
      let cut = place_pairs path sound.0 root sound.2.1 held.place in
      rw (held_pair (Some root) path sound held ∙ cut.is) refl

  -- At a gap there is no equal key.
  pub open_none : (m : Map K V Z) (path : List ℕ) → IsSoundMap m → IsOpenAt cmp k m path → at cmp (entries m) k ≡ None
  open_none None path sound gap = refl
  open_none (Some root) path sound gap = (gap_at cmp k path sound.0 root sound.2.1 gap).here

  -- Without an equal key nothing is cut out.
  pub open_cut : (m : Map K V Z) (path : List ℕ) → IsSoundMap m → IsOpenAt cmp k m path → entries m ≡ cut cmp (entries m) k
  open_cut None path sound gap = refl
  open_cut (Some root) path sound gap =
      let a = gap_at cmp k path sound.0 root sound.2.1 gap in
      gap_pairs path sound.0 root sound.2.1 (gap.levels sound.0 sound.2.1) gap.way ∙ rw (a.lower, a.upper) refl

  -- What a search answers tells whether an equal key is there.
  pub found_there : {A B : Type 0} (m : Map K V Z) (path : List ℕ) (r : Result A B) → IsSoundMap m → OnOk r (IsHeldAt cmp k m path)
      → OnOk r (IsSome (at cmp (entries m) k))
  found_there m path (Ok x) sound held = held_some m path sound held
  found_there m path (Err x) sound held = tt

  pub found_none : {A B : Type 0} (m : Map K V Z) (path : List ℕ) (r : Result A B) → IsSoundMap m → OnErr r (IsOpenAt cmp k m path)
      → OnErr r (at cmp (entries m) k ≡ None)
  found_none m path (Ok x) sound gap = tt
  found_none m path (Err x) sound gap = open_none m path sound gap

  -- The map with another value at the key.
  pub record IsReplaced (old new : Map K V Z) (v : V) : Type 0 where
    pub put_is : (j : K) → entries new ≡ put_by cmp (entries old) k j v
    pub length_is : length (entries new) ≡ length (entries old)
    pub blocks_is : blocks_in new ≡ blocks_in old
    pub sound : IsSoundMap new

  pub replaced : (m : Map K V Z) (path : List ℕ) (w : V) → IsSoundMap m → IsHeldAt cmp k m path → IsReplaced m (written_in m path w) w
  replaced None path w sound held = absurd held
  replaced (Some root) path w sound held =
      let same = bare_written path root w in
      record {
        put_is = λ j. written_put cmp k path sound.0 root j w sound.2.1 held;
        length_is = same_length root (written root path w) same;
        blocks_is = same_blocks (written root path w) root same;
        sound = same_root root (written root path w) same sound;
      }
