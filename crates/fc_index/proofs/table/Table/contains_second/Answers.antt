use Rattle.fc_index.proofs.ByKey.{has_row}
use Rattle.fc_index.proofs.table.Table.contains_second.Goals as goal

pub returns : goal.returns
returns g c =
    has_row g.B.Ord.cmp g.I.Ord.cmp (λ r. r.second) g.met.B.Ord.total g.met.I.Ord.total c.args.self.now c.with_second.result c.args.key
    c.with_second.ensures.rows c.next.result c.next.new.self c.is_some.result c.next.ensures.steps c.is_some.ensures
