use Rattle.std.proofs.Common.{◌-◌, arith}
use Rattle.fc_tree_search.proofs.NeighbourFacts.{before_last}
use Rattle.fc_tree_search.proofs.neighbours.last_before_child.Goals as goal

pub returns-else-place-eq0 : goal.returns-else-place-eq0
returns-else-place-eq0 g c = λ lead e. before_last c.requires.levels.0 c.args.node.now (c.args.place - 1) c.args.place c.pair.result.now lead
    c.requires.levels.1 (omega arith) (omega arith) c.pair.ensures
