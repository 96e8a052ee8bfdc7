use Rattle.std.proofs.Common.{refl, sym, subst}
use Rattle.fc_base.specs.Ascending.{IsAscending}
use Rattle.fc_base.proofs.Laws.{ascending_put}
use Rattle.fc_map.specs.Entries.{entries}
use Rattle.fc_set.specs.Items.{items}
use Rattle.fc_index.specs.declared.keyed.Keyed.{Keyed}
use Rattle.fc_index.proofs.Listed.{listed_kept, value_set}
use Rattle.fc_index.proofs.table.Table.set_value.Goals as goal

pub invariant_of-self-2 : goal.invariant_of-self-2
invariant_of-self-2 g c =
    let rows = entries c.self.inside.rows in
    let row : Keyed g.row.A.Denot g.row.B.Denot g.row.V.Denot = c.in-Some.row.now in
    let new : Keyed g.row.A.Denot g.row.B.Denot g.row.V.Denot = record { first = row.first; second = row.second; value = c.replace.new.dest } in
    let put = c.in-Some.ensures.put c.args.id new in
    let is = c.self.invariant in
    let held = sym c.in-Some.ensures.value in (
      listed_kept g.A.Ord.cmp g.I.Ord.cmp (λ r. r.first) g.met.A.Ord.total g.met.I.Ord.total rows (items c.self.inside.firsts) is.0 is.2
          c.args.id _ row new put held refl,
      listed_kept g.B.Ord.cmp g.I.Ord.cmp (λ r. r.second) g.met.B.Ord.total g.met.I.Ord.total rows (items c.self.inside.seconds) is.1 is.2
          c.args.id _ row new put held refl,
      subst (IsAscending g.I.Ord.cmp) (sym put) (ascending_put g.I.Ord.cmp rows c.args.id new g.met.I.Ord.total is.2),
    )

pub returns-clause-set : goal.returns-clause-set
returns-clause-set g c =
    let row : Keyed g.row.A.Denot g.row.B.Denot g.row.V.Denot = c.in-Some.row.now in
    let new : Keyed g.row.A.Denot g.row.B.Denot g.row.V.Denot = record { first = row.first; second = row.second; value = c.replace.new.dest } in
    value_set g.I.Ord.cmp c.args.id c.replace.result c.args.value c.replace.new.dest (entries c.self.inside.rows) c.args.self.now _ row
    c.self.view_is (sym c.in-Some.ensures.value) c.replace.ensures.value c.replace.ensures.after (c.in-Some.ensures.put c.args.id new)
