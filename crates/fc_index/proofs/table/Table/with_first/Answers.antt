use Rattle.fc_index.proofs.ByKey.{of_one}
use Rattle.fc_index.proofs.table.Table.with_first.Goals as goal

pub returns : goal.returns
returns g c = record {
  rows = of_one g.A.Ord.cmp g.I.Ord.cmp (λ r. r.first) g.met.A.Ord.total g.met.I.Ord.total c.args.self.now c.by_first.result c.args.key
      c.by_first.ensures.rows;
}
