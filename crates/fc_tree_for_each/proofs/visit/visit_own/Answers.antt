use Rattle.std.proofs.Common.{refl}
use Rattle.fc_tree_search.proofs.WrittenFacts.{own_written}
use Rattle.fc_tree_for_each.proofs.visit.visit_own.Goals as goal

pub returns-clause-visited : goal.returns-clause-visited
returns-clause-visited g c = (
  c.get_mut-pair.result.now,
  c.f.new.arg3,
  record { key = _; shown = _; shows = (refl, refl); left = _; called = c.f.ensures; leaves = refl },
  c.get_mut-pair.ensures.value,
  own_written c.args.node.now c.args.index c.get_mut-pair.result.now c.f.new.arg3 c.requires.inside c.get_mut-pair.ensures.value,
)
