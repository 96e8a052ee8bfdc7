use Rattle.std.proofs.Common.{ap}
use Rattle.fc_map.specs.Entries.{entries}
use Rattle.fc_set.proofs.ItemFacts.{keys, no_keys}
use Rattle.fc_set.proofs.set.BTreeSet.is_empty.Goals as goal

pub returns : goal.returns
returns g c = rw (← c.self.view_is) ((λ t. ap keys (c.is_empty.ensures.0 t)), λ e. c.is_empty.ensures.1 (no_keys (entries c.self.inside.map) e))
