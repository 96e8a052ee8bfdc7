use Rattle.std.proofs.Common.{refl}
use Rattle.fc_tree_retain.proofs.filter.ExtractingKeysFilter.stays.Goals as goal

pub returns-clause-asked : goal.returns-clause-asked
returns-clause-asked g c = (c.pick.result, (record { shown = _; shows = refl; called = c.pick.ensures }, refl), refl, refl)
