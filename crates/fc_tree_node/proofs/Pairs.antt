-- What the pairs of a node are, by its children and its own pairs.
use Rattle.std.proofs.Common.{◌≡◌, ℕ, suc, ◌≤◌, List, [], length, map, refl, ap, ◌∙◌, arith, Option, Some, None}
use Rattle.fc_base.specs.Sizes.{min_len}
use Rattle.fc_tree_node.specs.Weave.{weave}
use Rattle.fc_tree_node.specs.declared.node.Node.{Node, out-Node, map-Node, fold_out-Node}
use Rattle.fc_tree_node.specs.Node.{items_or_none, own_pairs, children_of, child_at, pairs_step, pairs_of, IsLeaf, IsLevelled}
use Rattle.fc_tree_node.proofs.Lists.{all_at}

module _ {K V Z : Type 0} where
  woven : (ps : List (K × V)) (o : Option (List (Node K V Z))) → pairs_step
      (map-Node K V Z (Node K V Z) (List (K × V)) pairs_of (record { pairs = ps; children = o })) ≡ weave (map pairs_of (items_or_none o)) ps
  woven ps None = refl
  woven ps (Some cs) = refl

  -- the pairs of the children and the node's own in turn
  pub pairs_is : (n : Node K V Z) → pairs_of n ≡ weave (map pairs_of (children_of n)) (own_pairs n)
  pairs_is n = fold_out-Node K V Z (List (K × V)) pairs_step n ∙ woven (own_pairs n) (out-Node K V Z n).children

  pub leaf_children : (n : Node K V Z) → IsLeaf n → children_of n ≡ []
  leaf_children n e = ap items_or_none e

  pub leaf_pairs : (n : Node K V Z) → IsLeaf n → pairs_of n ≡ own_pairs n
  leaf_pairs n e = pairs_is n ∙ ap (λ cs. weave (map pairs_of cs) (own_pairs n)) (leaf_children n e)

  abbrev pub IsBelow : ℕ → Node K V Z → Type 0
  IsBelow h c = (min_len ≤ length (own_pairs c)) × IsLevelled h c

  -- each child of a levelled node is sound one level further down
  pub child_below : (h : ℕ) (n : Node K V Z) (i : ℕ) → IsLevelled (suc h) n → i ≤ length (own_pairs n) → IsBelow h (child_at n i)
  child_below h n i l le =
      all_at (IsBelow h) (children_of n) i n (omega arith) l.2
