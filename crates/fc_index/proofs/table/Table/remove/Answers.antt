use Rattle.std.proofs.Common.{sym}
use Rattle.fc_map.specs.Entries.{entries}
use Rattle.fc_set.specs.Items.{items}
use Rattle.fc_index.proofs.Listed.{listed_cut}
use Rattle.fc_index.proofs.table.Table.remove.Goals as goal

pub invariant_of-self-2 : goal.invariant_of-self-2
invariant_of-self-2 g c =
    let rows = entries c.self.inside.rows in
    let is = c.self.invariant in
    let held = sym c.in_ok-row.ensures.value in (
      listed_cut g.A.Ord.cmp g.I.Ord.cmp (λ r. r.first) g.met.A.Ord.total g.met.I.Ord.total rows (items c.self.inside.firsts) is.0 is.2
          c.args.id _ c.in_ok-row.row _ c.remove.ensures.rest c.remove-2.ensures.rest held c.remove-2.ensures.ascending,
      listed_cut g.B.Ord.cmp g.I.Ord.cmp (λ r. r.second) g.met.B.Ord.total g.met.I.Ord.total rows (items c.self.inside.seconds) is.1 is.2
          c.args.id _ c.in_ok-row.row _ c.remove.ensures.rest c.remove-3.ensures.rest held c.remove-3.ensures.ascending,
      c.remove.ensures.ascending,
    )
