use Rattle.fc_index.proofs.edge.items_between.Goals as goal

pub returns-clause-items : goal.returns-clause-items
returns-clause-items g c = rw (← c.start_of.ensures, ← c.end_of.ensures) c.range.ensures.items
