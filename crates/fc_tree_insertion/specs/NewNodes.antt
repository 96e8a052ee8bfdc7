-- Nodes made ahead for an insertion.
use Rattle.std.specs.Prelude.{ℕ}
use Rattle.fc_tree_insertion.specs.declared.new_nodes.NewNodes.TheInside.{Inside}
use Rattle.fc_tree_insertion.specs.Cascade.{IsSpareLeaf, spare_count}

module _ {K V Z : Type 0} where
  -- How many nodes there are.
  abbrev pub new_nodes_len : Inside K V Z → ℕ
  new_nodes_len r = spare_count r.leaf r.inner

  -- The leaf holds nothing, and where there is no leaf there is no node.
  abbrev pub AreNewNodes : Inside K V Z → Type 0
  AreNewNodes r = IsSpareLeaf r.leaf (new_nodes_len r)
