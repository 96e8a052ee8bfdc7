use Rattle.std.proofs.Common.{[]}
use Rattle.fc_map.proofs.map.entry.OccupiedEntry.into_mut.Goals as goal

pub value_mut-requires : goal.value_mut-requires
value_mut-requires g c = c.args.self.place []
