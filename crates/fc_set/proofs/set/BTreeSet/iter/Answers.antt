use Rattle.std.proofs.Common.{sym, subst}
use Rattle.fc_set.specs.Items.{AreAscending}
use Rattle.fc_set.proofs.ItemFacts.{ascending_keys}
use Rattle.fc_set.proofs.set.BTreeSet.iter.Goals as goal

pub returns-clause-ascending : goal.returns-clause-ascending
returns-clause-ascending g c = subst (AreAscending g.T.Ord.cmp) (sym c.keys.ensures.keys) (ascending_keys g.T.Ord.cmp _ c.keys.ensures.ascending)
