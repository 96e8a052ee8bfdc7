use Rattle.fc_tree_search.proofs.WrittenFacts.{own_written}
use Rattle.fc_tree_retain.proofs.filtering.stays.Goals as goal

pub returns-clause-asked : goal.returns-clause-asked
returns-clause-asked g c = (
  c.get_mut-pair.result.now,
  c.stays.new.value,
  c.stays.ensures.asked,
  c.get_mut-pair.ensures.value,
  own_written c.args.node.now c.args.index c.get_mut-pair.result.now c.stays.new.value c.requires.inside c.get_mut-pair.ensures.value,
)
