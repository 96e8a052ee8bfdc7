use Rattle.std.proofs.Common.{◌≡◌, ◌+◌, ◌*◌}
use Rattle.fc_tree_insertion.proofs.new_nodes.try_spares.Given as goal

abbrev pub invariant-loop-i : goal.invariant-loop-i
invariant-loop-i g l = (l.spares ≡ l._i) × (l.asked.requests ≡ l.initial.asked.requests + 2 * l._i)
