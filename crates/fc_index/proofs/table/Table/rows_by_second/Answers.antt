use Rattle.std.proofs.Common.{sym, subst}
use Rattle.fc_index.specs.ByKey.{AreThere}
use Rattle.fc_index.specs.Rows.{lies}
use Rattle.fc_index.proofs.ByKey.{there_by_key}
use Rattle.fc_index.proofs.table.Table.rows_by_second.Goals as goal

pub invariant_of-result : goal.invariant_of-result
invariant_of-result g c =
    let chosen = lies g.B.Ord.cmp c.args.bounds.0 c.args.bounds.1 in
    let there = there_by_key g.B.Ord.cmp g.I.Ord.cmp (λ r. r.second) g.met.B.Ord.total g.met.I.Ord.total c.args.self.now c.by_second.result
    chosen c.by_second.ensures.rows in
    subst (AreThere g.I.Ord.cmp c.by_second.result) (sym c.self.view_is) there
