use Rattle.std.proofs.Common.{subst}
use Rattle.fc_map.specs.Fewest.{HasFewestMoves}
use Rattle.fc_set.proofs.ItemFacts.{ascending_keys}
use Rattle.fc_set.proofs.set.BTreeSet.pop_first_counted.Goals as goal

pub returns-clause-ascending : goal.returns-clause-ascending
returns-clause-ascending g c = ascending_keys g.T.Ord.cmp _ c.pop_first_counted.ensures.ascending

pub returns-clause-fewest : goal.returns-clause-fewest
returns-clause-fewest g c =
    subst (λ m. HasFewestMoves m c.pop_first_counted.new.self c.args.count.now c.pop_first_counted.new.count) c.self.view_is c.pop_first_counted.ensures.fewest
