use Rattle.std.proofs.Common.{[]}
use Rattle.fc_map.proofs.map.entry.OccupiedEntry.remove_entry_counted.Goals as goal

pub take_at-pair-requires : goal.take_at-pair-requires
take_at-pair-requires g c = c.args.self.place []
