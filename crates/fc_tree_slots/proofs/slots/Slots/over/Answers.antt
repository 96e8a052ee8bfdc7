use Rattle.std.proofs.lemmas.List.{nil_from_length}
use Rattle.fc_tree_slots.proofs.Rows.{unpacks}
use Rattle.fc_tree_slots.proofs.slots.Slots.over.Goals as goal

pub returns : goal.returns
returns g c = nil_from_length _ (unpacks c.args.cells 0 g.row.N c.requires).1
