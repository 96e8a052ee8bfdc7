-- A removal from a tree.
use Rattle.std.proofs.Common.{◌≡◌, ℕ, ◌+◌, ◌-◌, ◌*◌, ◌≤◌, inl, inr, List, [], ◌∷◌, ◌++◌, length, Some, None, ap, ◌∙◌, arith, length-append}
use Rattle.std.specs.declared.cmp.Ordering.{Ordering}
use Rattle.std.specs.declared.cmp.Ordering.TheVariants.{Less}
use Rattle.std.specs.List.{AllByRecursion}
use Rattle.fc_base.specs.Sizes.{most_height, level_moves}
use Rattle.fc_base.specs.declared.count.Count.{Count}
use Rattle.fc_base.specs.Ascending.{IsAscending}
use Rattle.fc_tree_node.specs.declared.node.Node.{Node}
use Rattle.fc_tree_node.specs.Depth.{HasFewMoves}
use Rattle.fc_tree_node.specs.Node.{pairs_of}
use Rattle.fc_tree_node.specs.Place.{IsPlace, before_pair, after_pair}
use Rattle.fc_tree_node.specs.TreePlace.{IsPlaceIn, before_pair_in, after_pair_in}
use Rattle.fc_tree_removal.specs.Removal.{IsSoundTree, IsTreeLeft}
use Rattle.fc_tree_node.proofs.DepthFacts.{deep_root}
use Rattle.fc_tree_node.proofs.Gaps.{place_pairs}
use Rattle.fc_map.specs.Entries.{Map, entries, IsSoundMap}

module _ {K V : Type 0} where
  module _ {Z : Type 0} where
    -- What a removal leaves is sound, and no higher.
    pub left_sound : (h : ℕ) (left : Map K V Z) → h ≤ most_height → IsTreeLeft h left → IsSoundMap left
    left_sound h None le l = tt
    left_sound h (Some root) le (inl same) = (h, le, same)
    left_sound h (Some root) le (inr lower) = (h - 1, omega arith, lower.1)

  -- An ascending list without one of its pairs is ascending.
  pub without_ascending : (cmp : K → K → Ordering) (front back : List (K × V)) (p : K × V) → IsAscending cmp (front ++ p ∷ back)
      → IsAscending cmp (front ++ back)
  without_ascending cmp [] back p a = a.1
  without_ascending cmp (x ∷ front) back p a = (dropped front a.0, without_ascending cmp front back p a.1)
    where
      dropped : (s : List (K × V)) → AllByRecursion (λ y. cmp x.0 y.0 ≡ Less) (s ++ p ∷ back) → AllByRecursion (λ y. cmp x.0 y.0 ≡ Less) (s ++ back)
      dropped [] b = b.1
      dropped (y ∷ s) b = (b.0, dropped s b.1)

  module _ {Z : Type 0} where
    module _ (root : Node K V Z) (path : List ℕ) (sound : IsSoundMap (Some root)) (place : IsPlace path root) (left : Map K V Z)
        (rest : entries left ≡ before_pair path root ++ after_pair path root) where
      pub left_length : length (pairs_of root) ≡ length (entries left) + 1
      left_length =
          let c = place_pairs path sound.0 root sound.2.1 place in
          let old = ap length c.parts ∙ length-append (before_pair path root) (c.pair ∷ after_pair path root) in
          let new = ap length rest ∙ length-append (before_pair path root) (after_pair path root) in
          omega (arith, old, new)

      -- The map's invariant holds of what is left.
      pub left_kept : (cmp : K → K → Ordering) → IsAscending cmp (pairs_of root) → IsTreeLeft sound.0 left → IsAscending cmp (entries left) × IsSoundMap left
      left_kept cmp ascending l =
          let c = place_pairs path sound.0 root sound.2.1 place in
          (rw rest (without_ascending cmp (before_pair path root) (after_pair path root) c.pair (rw c.parts at ascending)), left_sound sound.0 left sound.1 l)

    -- The moves of a removal from a tree.
    pub left_moves : (root : Node K V Z) (sound : IsSoundMap (Some root)) (old new : Count) → new.moves ≤ old.moves + level_moves * (sound.0 + 1)
        → HasFewMoves (length (pairs_of root)) old new
    left_moves root sound old new few = (sound.0, deep_root sound.0 root sound.2, few)

    -- The same of a map.
    pub map_height : (m : Map K V Z) (path : List ℕ) → IsSoundMap m → IsPlaceIn m path → (h : ℕ) × IsSoundTree h m
    map_height None path sound place = absurd place
    map_height (Some root) path sound place = (sound.0, sound.2)

    pub map_length : (m : Map K V Z) (path : List ℕ) → IsSoundMap m → IsPlaceIn m path → (left : Map K V Z)
        → entries left ≡ before_pair_in m path ++ after_pair_in m path → length (entries m) ≡ length (entries left) + 1
    map_length None path sound place left rest = absurd place
    map_length (Some root) path sound place left rest = left_length root path sound place left rest

    pub map_kept : (m : Map K V Z) (path : List ℕ) → IsSoundMap m → IsPlaceIn m path → (left : Map K V Z)
        → entries left ≡ before_pair_in m path ++ after_pair_in m path → (cmp : K → K → Ordering) → IsAscending cmp (entries m)
        → ((h : ℕ) → IsSoundTree h m → IsTreeLeft h left) → IsAscending cmp (entries left) × IsSoundMap left
    map_kept None path sound place left rest cmp ascending l = absurd place
    map_kept (Some root) path sound place left rest cmp ascending l = left_kept root path sound place left rest cmp ascending (l sound.0 sound.2)

    pub map_moves : (m : Map K V Z) (path : List ℕ) → IsSoundMap m → IsPlaceIn m path → (old new : Count)
        → ((h : ℕ) → IsSoundTree h m → new.moves ≤ old.moves + level_moves * (h + 1)) → HasFewMoves (length (entries m)) old new
    map_moves None path sound place old new few = absurd place
    map_moves (Some root) path sound place old new few = left_moves root sound old new (few sound.0 sound.2)
