use Rattle.std.proofs.Common.{sym}
use Rattle.fc_tree_search.proofs.WrittenFacts.{own_there}
use Rattle.fc_tree_search.proofs.neighbours.last_at_own.Goals as goal

pub returns-then-takes_equal-clause-equal : goal.returns-then-takes_equal-clause-equal
returns-then-takes_equal-clause-equal g c e = sym (own_there c.args.node.now c.args.place c.pair.result.now c.requires.place c.pair.ensures)
