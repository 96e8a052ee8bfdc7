use Rattle.fc_map.specs.Entries.{entries}
use Rattle.fc_index.proofs.ByKey.{back_row, back_goes}
use Rattle.fc_index.proofs.table.rows_by.RowsByDoubleEndedIterator.next_back.Goals as goal

pub returns-clause-steps : goal.returns-clause-steps
returns-clause-steps g c = rw (← c.self.view_is) (
    back_row g.I.Ord.cmp (entries c.self.inside.rows.now) c.self.inside.walk c.next_back.new.self c.in_ok-item.item.now c.get_key_value.result c.self.invariant
    c.get_key_value.ensures.pair c.in_ok-item.ensures.steps
    )

pub returns-clause-goes : goal.returns-clause-goes
returns-clause-goes g c = rw (← c.self.view_is) (
    back_goes g.I.Ord.cmp (entries c.self.inside.rows.now) c.self.inside.walk c.next_back.new.self c.in_ok-item.item.now c.get_key_value.result c.self.invariant
    c.get_key_value.ensures.pair _ (λ s. tt) c.in_ok-item.ensures.steps
    )
