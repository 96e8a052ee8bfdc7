use Rattle.std.proofs.Common.{◌≡◌, take}
use Rattle.fc_tree_cursor.proofs.run.is_same_leaf.Given as goal

-- So far the steps are the same.
abbrev pub invariant-loop-i : goal.invariant-loop-i
invariant-loop-i l = take l.i l.a ≡ take l.i l.b
