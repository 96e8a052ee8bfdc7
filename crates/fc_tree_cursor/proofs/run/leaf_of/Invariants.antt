use Rattle.std.proofs.Common.{◌≡◌, take}
use Rattle.std.specs.Prelude.{option_copied}
use Rattle.fc_tree_node.specs.Place.{node_at}
use Rattle.fc_tree_cursor.specs.Gap.{IsAboveAt}
use Rattle.fc_tree_cursor.proofs.run.leaf_of.Given as goal

abbrev pub invariant-loop-level : goal.invariant-loop-level
invariant-loop-level g l = (l.node ≡ node_at (take l.level l.gap) l.root) × IsAboveAt l.gap l.root l.level (option_copied l.above)
