use Rattle.std.proofs.Common.{◌≡◌, length, take}
use Rattle.std.specs.List.{AllZip}
use Rattle.fc_tree_copy.specs.Copy.{AreSame}
use Rattle.fc_tree_copy.proofs.copy.try_copy_pairs.Given as goal

abbrev pub invariant-loop-i : goal.invariant-loop-i
invariant-loop-i g l = (l.i-end ≡ length l.pairs) × AllZip (AreSame g.K.TryClone.same g.V.TryClone.same) (take l.i l.pairs) l.copies
