use Rattle.std.proofs.Common.{◌≡◌, ◌+◌}
use Rattle.fc_tree_insertion.proofs.pool.NodePool.take_spares.Given as goal

abbrev pub invariant-loop-i : goal.invariant-loop-i
invariant-loop-i g l = (l.spares ≡ l._i) × (l.self + l._i ≡ l.fn.self)
