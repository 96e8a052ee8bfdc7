use Rattle.fc_tree_cursor.proofs.Ways.{BeforeWay}
use Rattle.fc_tree_cursor.proofs.run.lowest_with_previous.Given as goal

abbrev pub invariant-loop-level : goal.invariant-loop-level
invariant-loop-level g l = BeforeWay l.gap l.root l.node l.level l.best l.place
