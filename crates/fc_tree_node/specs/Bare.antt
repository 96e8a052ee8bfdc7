-- A tree without its values: trees that differ in their values alone are one.
use Rattle.std.specs.Prelude.{map}
use Rattle.fc_tree_node.specs.declared.node.Node.{Node, Node-F, roll-Node, fold-Node}

abbrev pub key_alone : {K V : Type 0} → K × V → K × Unit {0}
key_alone e = (e.0, tt)

module _ {K V Z : Type 0} where
  abbrev pub bare_step : Node-F K V Z (Node K (Unit {0}) Z) → Node K (Unit {0}) Z
  bare_step f = roll-Node K (Unit {0}) Z (record { pairs = map key_alone f.pairs; children = f.children })

  -- The tree with its keys alone.
  abbrev pub bare : Node K V Z → Node K (Unit {0}) Z
  bare = fold-Node K V Z (Node K (Unit {0}) Z) bare_step
