-- Paths from a node down to a gap between the pairs of a leaf.
use Rattle.std.specs.Prelude.{ℕ, suc, ◌≤◌, List, [], ◌∷◌, ◌++◌, length, map, take, drop}
use Rattle.fc_tree_node.specs.Weave.{before_list, after_list}
use Rattle.fc_tree_node.specs.declared.node.Node.{Node}
use Rattle.fc_tree_node.specs.Node.{own_pairs, children_of, child_at, pairs_of}

module _ {K V Z : Type 0} where
  -- Each step of the path is a place among the pairs of the node that it has come to, or the place after them.
  abbrev pub IsPath : List ℕ → Node K V Z → Type 0
  IsPath [] n = Unit {0}
  IsPath (i ∷ path) n = (i ≤ length (own_pairs n)) × IsPath path (child_at n i)

  -- The pairs before the gap that the path leads to.
  abbrev pub before_gap : List ℕ → Node K V Z → List (K × V)
  before_gap [] n = []
  before_gap (i ∷ path) n = before_list (map pairs_of (take i (children_of n))) (take i (own_pairs n)) ++ before_gap path (child_at n i)

  -- The pairs after the gap that the path leads to.
  abbrev pub after_gap : List ℕ → Node K V Z → List (K × V)
  after_gap [] n = []
  after_gap (i ∷ path) n = after_gap path (child_at n i) ++ after_list (drop i (own_pairs n)) (map pairs_of (drop (suc i) (children_of n)))
