-- What contracts see of a builder, and how it is laid out.
use Rattle.std.specs.Prelude.{◌≡◌, ℕ, min, ◌+◌, ◌-◌, ◌*◌, ◌/◌, ◌^◌, ◌≤◌, ◌⊎◌, List, [], ◌∷◌, ◌++◌, length, map, Option, Some, None, vec_capacity}
use Rattle.std.specs.List.{AllByRecursion}
use Rattle.std.specs.declared.cmp.Ordering.{Ordering}
use Rattle.std.specs.declared.cmp.Ordering.TheVariants.{Less}
use Rattle.fc_base.specs.Sizes.{capacity, most_children, most_height}
use Rattle.fc_tree_node.specs.declared.node.Node.{Node}
use Rattle.fc_tree_node.specs.Blocks.{blocks_of, blocks_in}
use Rattle.fc_tree_node.specs.Measures.{total}
use Rattle.fc_tree_node.specs.Node.{own_pairs, IsLeaf, IsEmptyLeaf, IsEmptyInner}
use Rattle.fc_tree_drain.specs.Opened.{before_back}
use Rattle.fc_tree_build.specs.Spine.{IsSpine}
use Rattle.fc_tree_build.specs.Spares.{IsEnough, IsShort, worth}
use Rattle.fc_tree_build.specs.declared.builder.Builder.TheInside.{Inside}

-- The pairs that a builder holds, in order, for how many more it has room, for how many it has with all leaves that it can use, and the
-- blocks of all its nodes, also of those that wait.
pub record Built (K V : Type 0) : Type 0 where
  pub pairs : List (K × V)
  pub room : ℕ
  pub limit : ℕ
  pub blocks : ℕ

-- The pairs of a tree that grows, in order, and for how many more its last leaf has room: for none where there is no leaf.
pub record Grown (K V : Type 0) : Type 0 where
  pub pairs : List (K × V)
  pub room : ℕ

module _ {K V Z : Type 0} where
  -- The pairs of the last leaf, if there is one.
  abbrev pub last_pairs : Option (Node K V Z) → List (K × V)
  last_pairs None = []
  last_pairs (Some leaf) = own_pairs leaf

  -- For how many more pairs there is room after the last leaf, in so many spare leaves: each next leaf takes a pair between it and the
  -- one before, and as many as it holds.
  abbrev pub room_after : Option (Node K V Z) → ℕ → ℕ
  room_after None spares = 0
  room_after (Some leaf) spares = (capacity - length (own_pairs leaf)) + most_children * spares

  -- The pairs of a builder, its room, and its blocks.
  abbrev pub built : Inside K V Z → Built K V
  built b =
      record {
        pairs = before_back b.spine ++ last_pairs b.last;
        room = min b.limit (room_after b.last (length b.leaves.items));
        limit = b.limit;
        blocks = total (map blocks_of b.spine) + blocks_in b.last + length b.leaves.items + 2 * length b.inner.items;
      }

  -- For how many more pairs the last leaf has room, if there is one.
  abbrev pub last_room : Option (Node K V Z) → ℕ
  last_room None = 0
  last_room (Some leaf) = capacity - length (own_pairs leaf)

  -- The pairs of a tree that grows, and the room of its last leaf.
  abbrev pub grown : List (Node K V Z) → Option (Node K V Z) → Grown K V
  grown s last = record { pairs = before_back s ++ last_pairs last; room = last_room last }

  -- The tree so far stands above the last leaf and is not too high. With no leaf there is nothing else.
  abbrev pub IsAbove : List (Node K V Z) → Option (Node K V Z) → Type 0
  IsAbove s None = s ≡ []
  IsAbove s (Some leaf) = (length (own_pairs leaf) ≤ capacity) × IsLeaf leaf × IsSpine 0 s × (length s ≤ most_height)

  -- So many pairs stand before the last leaf, and with a full one there are no more than a machine can count. Each leaf before the last is
  -- full, and the nodes above are as few as they can be.
  abbrev pub IsGrown : List (Node K V Z) → Option (Node K V Z) → ℕ → Type 0
  IsGrown s last before = IsAbove s last × (before ≡ length (before_back s)) × (before + capacity ≤ 2 ^ 64 - 1)
      × (before ≡ most_children * worth s) × IsShort s

module _ {K V : Type 0} where
  -- The key is greater than that of the last pair.
  abbrev pub IsAfterLast : (K → K → Ordering) → List (K × V) → K → Type 0
  IsAfterLast cmp s k = (front : List (K × V)) × (last : K × V) × (s ≡ front ++ last ∷ []) × (cmp last.0 k ≡ Less)

module _ {K V Z : Type 0} where
  -- The last leaf; with none there is no room and nothing else.
  abbrev pub IsLast : Option (Node K V Z) → ℕ → List (Node K V Z) → Type 0
  IsLast None limit s = (limit ≡ 0) × (s ≡ [])
  IsLast (Some leaf) limit s = (length (own_pairs leaf) ≤ capacity) × IsLeaf leaf

  -- How many leaves so many more pairs take after those of the last one.
  abbrev pub leaves_after : Option (Node K V Z) → ℕ → ℕ
  leaves_after last limit = (length (last_pairs last) + limit) / most_children

  -- The tree so far stands above the last leaf. There are just as many spare inner nodes as the limit takes, and as many leaves, unless
  -- there is room for two of them.
  abbrev pub IsBuilder : Inside K V Z → Type 0
  IsBuilder b = IsLast b.last b.limit b.spine × IsSpine 0 b.spine
      × ((2 ≤ vec_capacity b.leaves) ⊎ (b.limit ≤ room_after b.last (length b.leaves.items)))
      × AllByRecursion (λ n. IsEmptyLeaf n) b.leaves.items × AllByRecursion (λ n. IsEmptyInner n) b.inner.items
      × IsEnough (length b.inner.items) (leaves_after b.last b.limit) b.spine
