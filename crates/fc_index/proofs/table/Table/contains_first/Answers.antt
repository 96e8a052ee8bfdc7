use Rattle.fc_index.proofs.ByKey.{has_row}
use Rattle.fc_index.proofs.table.Table.contains_first.Goals as goal

pub returns : goal.returns
returns g c =
    has_row g.A.Ord.cmp g.I.Ord.cmp (λ r. r.first) g.met.A.Ord.total g.met.I.Ord.total c.args.self.now c.with_first.result c.args.key
    c.with_first.ensures.rows c.next.result c.next.new.self c.is_some.result c.next.ensures.steps c.is_some.ensures
