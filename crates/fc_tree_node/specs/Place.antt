-- Places in a tree: a gap between the pairs of a node, and a pair of any node.
use Rattle.std.specs.Prelude.{ℕ, suc, ◌<◌, List, [], ◌∷◌, ◌++◌, length, map, take, drop, Option, None, slice_get}
use Rattle.fc_tree_node.specs.Weave.{weave, before_list, after_list}
use Rattle.fc_tree_node.specs.declared.node.Node.{Node}
use Rattle.fc_tree_node.specs.Node.{own_pairs, children_of, child_at, pairs_of}

module _ {K V Z : Type 0} where
  -- The pairs of a node that are before its child at the place.
  abbrev pub before_child : Node K V Z → ℕ → List (K × V)
  before_child n i = before_list (map pairs_of (take i (children_of n))) (take i (own_pairs n))

  -- The pairs of a node that are after its child at the place.
  abbrev pub after_child : Node K V Z → ℕ → List (K × V)
  after_child n i = after_list (drop i (own_pairs n)) (map pairs_of (drop (suc i) (children_of n)))

  -- The pairs of a node that are before its own pair at the place.
  abbrev pub before_own : Node K V Z → ℕ → List (K × V)
  before_own n i = weave (map pairs_of (take (suc i) (children_of n))) (take i (own_pairs n))

  -- The pairs of a node that are after its own pair at the place.
  abbrev pub after_own : Node K V Z → ℕ → List (K × V)
  after_own n i = weave (map pairs_of (drop (suc i) (children_of n))) (drop (suc i) (own_pairs n))

  -- Each step leads to a child.
  abbrev pub IsDescent : List ℕ → Node K V Z → Type 0
  IsDescent [] n = Unit {0}
  IsDescent (i ∷ path) n = (i < length (children_of n)) × IsDescent path (child_at n i)

  -- The node that the steps lead to.
  abbrev pub node_at : List ℕ → Node K V Z → Node K V Z
  node_at [] n = n
  node_at (i ∷ path) n = node_at path (child_at n i)

  -- All steps but the last lead to a child, and the last is the place of a pair of the node that they lead to.
  abbrev pub IsPlace : List ℕ → Node K V Z → Type 0
  IsPlace [] n = ⊥
  IsPlace (i ∷ []) n = i < length (own_pairs n)
  IsPlace (i ∷ j ∷ path) n = (i < length (children_of n)) × IsPlace (j ∷ path) (child_at n i)

  -- The pair at the place, if there is one.
  abbrev pub place_pair : List ℕ → Node K V Z → Option (K × V)
  place_pair [] n = None
  place_pair (i ∷ []) n = slice_get (own_pairs n) i
  place_pair (i ∷ j ∷ path) n = place_pair (j ∷ path) (child_at n i)

  -- The pairs before the pair at the place.
  abbrev pub before_pair : List ℕ → Node K V Z → List (K × V)
  before_pair [] n = []
  before_pair (i ∷ []) n = before_own n i
  before_pair (i ∷ j ∷ path) n = before_child n i ++ before_pair (j ∷ path) (child_at n i)

  -- The pairs after the pair at the place.
  abbrev pub after_pair : List ℕ → Node K V Z → List (K × V)
  after_pair [] n = []
  after_pair (i ∷ []) n = after_own n i
  after_pair (i ∷ j ∷ path) n = after_pair (j ∷ path) (child_at n i) ++ after_child n i
