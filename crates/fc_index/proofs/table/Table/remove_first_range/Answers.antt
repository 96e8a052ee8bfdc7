use Rattle.std.proofs.Common.{◌-◌, ◌<◌, length, sym, ap, ◌∙◌, subst, arith}
use Rattle.std.specs.Prelude.{not, filter}
use Rattle.fc_index.specs.Rows.{lies}
use Rattle.fc_index.proofs.Removed.{ended, one_removed, stepped}
use Rattle.fc_index.proofs.table.Table.remove_first_range.Goals as goal

pub rows-smaller : goal.rows-smaller
rows-smaller g c =
    let one = one_removed g.A.Ord.cmp g.I.Ord.cmp (λ r. r.first) g.met.A.Ord.total g.met.I.Ord.total c.args.bounds.0 c.args.bounds.1 c.rows.self
    c.rows.invariant.1 c.by_first.result c.by_first.ensures.rows c.in-Some.item c.next.new.self
    (stepped c.next.result _ _ _ c.next.ensures.steps (sym c.copied.ensures ∙ c.in-Some.is)) in
    subst (λ l. length l < length c.rows.self) (sym c.remove.ensures.rest) one.1

pub rows-preserved : goal.rows-preserved
rows-preserved g c =
    let one = one_removed g.A.Ord.cmp g.I.Ord.cmp (λ r. r.first) g.met.A.Ord.total g.met.I.Ord.total c.args.bounds.0 c.args.bounds.1 c.rows.self
    c.rows.invariant.1 c.by_first.result c.by_first.ensures.rows c.in-Some.item c.next.new.self
    (stepped c.next.result _ _ _ c.next.ensures.steps (sym c.copied.ensures ∙ c.in-Some.is)) in (
      ap (filter (λ e. not (lies g.A.Ord.cmp c.args.bounds.0 c.args.bounds.1 e.1.first))) c.remove.ensures.rest ∙ one.0 ∙ c.rows.invariant.0,
      c.remove.ensures.ascending,
    )

pub overflow_sub-result : goal.overflow_sub-result
overflow_sub-result g c =
    let done = ended g.A.Ord.cmp g.I.Ord.cmp (λ r. r.first) g.met.A.Ord.total g.met.I.Ord.total c.args.bounds.0 c.args.bounds.1 c.rows.self
    c.rows.invariant.1 c.by_first.result c.by_first.ensures.rows c.next.result c.next.new.self c.next.ensures.steps (sym c.copied.ensures ∙ c.in_default.is)
    c.args.self.now c.rows.invariant.0 in
    omega (arith, c.len.ensures, c.len-all.ensures, ap length c.iter.ensures.rows, done.1)

pub returns : goal.returns
returns g c =
    let done = ended g.A.Ord.cmp g.I.Ord.cmp (λ r. r.first) g.met.A.Ord.total g.met.I.Ord.total c.args.bounds.0 c.args.bounds.1 c.rows.self
    c.rows.invariant.1 c.by_first.result c.by_first.ensures.rows c.next.result c.next.new.self c.next.ensures.steps (sym c.copied.ensures ∙ c.in_default.is)
    c.args.self.now c.rows.invariant.0 in
    record {
      rest = done.0;
      count = (λ i. (c.len-all.ensures ∙ ap length c.iter.ensures.rows) i - c.len.ensures i) ∙ done.2;
      ascending = c.rows.invariant.1;
    }
