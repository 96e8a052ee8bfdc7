use Rattle.std.proofs.Common.{[]}
use Rattle.fc_map.proofs.map.entry.OccupiedEntry.key.Goals as goal

pub pair_of-requires : goal.pair_of-requires
pair_of-requires g c = c.args.self.now.place []
