use Rattle.fc_index.proofs.ByKey.{of_one}
use Rattle.fc_index.proofs.table.Table.with_second.Goals as goal

pub returns : goal.returns
returns g c = record {
  rows = of_one g.B.Ord.cmp g.I.Ord.cmp (λ r. r.second) g.met.B.Ord.total g.met.I.Ord.total c.args.self.now c.by_second.result c.args.key
      c.by_second.ensures.rows;
}
