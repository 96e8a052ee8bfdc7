use Rattle.std.proofs.Common.{◌≡◌, drop}
use Rattle.fc_tree_node.specs.Place.{IsPlace, place_pair}
use Rattle.fc_tree_search.proofs.lend.pair_at.Given as goal

abbrev pub invariant-loop-i : goal.invariant-loop-i
invariant-loop-i g l = IsPlace (drop l.i l.path) l.node × (place_pair (drop l.i l.path) l.node ≡ place_pair l.path l.root)
