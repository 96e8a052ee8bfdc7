-- How many keys a search passes from the node that it has come to, where it ends there and where it goes on.
use Rattle.std.proofs.Common.{◌≡◌, ℕ, ◌+◌, ◌<◌, List, [], ◌∷◌, ◌++◌, length, refl}
use Rattle.std.specs.Prelude.{min, IsTrue, false}
use Rattle.std.specs.declared.cmp.Ordering.{Ordering}
use Rattle.fc_base.specs.Ascending.{IsAscending}
use Rattle.fc_tree_node.specs.declared.node.Node.{Node}
use Rattle.fc_tree_node.specs.Node.{own_pairs, children_of, child_at, pairs_of, IsLeaf}
use Rattle.fc_tree_search.specs.Found.{IsFoundAt, IsGapAt}
use Rattle.fc_tree_search.specs.Passed.{passed}
use Rattle.fc_tree_search.proofs.SearchFacts.{IsSearch, child_there, way_levels, way_ascending, way_more}
use Rattle.fc_tree_search.proofs.PassedFacts.{passed_found, passed_down, passed_leaf}
use Rattle.fc_tree_node.specs.Measures.{nodes_of}
use Rattle.fc_tree_node.proofs.MeasureFacts.{fewer_nodes}

-- a search goes on from a gap of the node in the child there
pub record GoesOn {K Q V Z : Type 0} (own : K → K → Ordering) (cmp : K → Q → Ordering) (k : Q) (root node child : Node K V Z) (path : List ℕ)
    (i : ℕ) : Type 0 where
  pub search : IsSearch own cmp k root child (path ++ i ∷ [])
  pub passes : passed cmp k node ≡ min (i + 1) (length (own_pairs node)) + passed cmp k child
  pub fewer : nodes_of child < nodes_of node

module _ {K Q V Z : Type 0} {own : K → K → Ordering} {cmp : K → Q → Ordering} {k : Q} {root node : Node K V Z} {path : List ℕ}
    (on : IsSearch own cmp k root node path) where
  ascending : IsAscending own (pairs_of node)
  ascending = way_ascending cmp k own on.levels on.order on.way

  -- it ends at a pair of the node
  pub ends_at : (i : ℕ) → IsFoundAt cmp k (own_pairs node) i → passed cmp k node ≡ i + 1
  ends_at i f = passed_found on.fits k node i ascending f

  -- it ends at a gap of a leaf
  pub ends_in : (i : ℕ) → IsGapAt cmp k (own_pairs node) i → IsLeaf node → passed cmp k node ≡ min (i + 1) (length (own_pairs node))
  ends_in i f leaf = passed_leaf on.fits k node i ascending f leaf

  -- where the node is no leaf, it has a child at the gap
  pub has_child : (i : ℕ) → IsGapAt cmp k (own_pairs node) i → (IsLeaf node → IsTrue false) → i < length (children_of node)
  has_child i f inner = let d = way_levels cmp k on.levels on.way in child_there d.0 node i d.2 inner f.0

  -- and the search goes on in that child
  pub goes_on : (i : ℕ) (child : Node K V Z) → IsGapAt cmp k (own_pairs node) i → (IsLeaf node → IsTrue false) → child ≡ child_at node i
      → GoesOn own cmp k root node child path i
  goes_on i child f inner e =
      let there = has_child i f inner in
      record {
        search = record { fits = on.fits; levels = on.levels; order = on.order; way = way_more on i child _ refl f there e };
        passes = passed_down on.fits k node child i ascending f there e;
        fewer = fewer_nodes node child i there e;
      }
