use Rattle.std.proofs.Common.{◌∙◌, sym, ap, Some, None, cond}
use Rattle.std.specs.Ordering.{is_lt}
use Rattle.fc_map.specs.Entries.{entries}
use Rattle.fc_intervals.specs.declared.stretch.Stretch.{Stretch}
use Rattle.fc_intervals.proofs.Points.{covered_none, covered_by}
use Rattle.fc_intervals.proofs.steps.covering.Goals as goal

pub returns-in_err-start-clause-pair : goal.returns-in_err-start-clause-pair
returns-in_err-start-clause-pair g c = rw c.from_residual.ensures (sym (covered_none g.K.Ord.cmp g.met.K.Ord.total c.args.at.now
    (entries c.args.map.now) c.requires (sym c.in_err-start.ensures.pair)))

pub returns-then-is_lt-clause-pair : goal.returns-then-is_lt-clause-pair
returns-then-is_lt-clause-pair g c =
    let found : g.row.K.Denot × Stretch g.row.K.Denot g.row.V.Denot = (c.in_ok-start.start.now, c.in_ok-start.stretch.now) in
    sym (covered_by g.K.Ord.cmp g.met.K.Ord.total c.args.at.now (entries c.args.map.now) c.requires found (sym c.in_ok-start.ensures.pair)
    ∙ ap (λ t. cond t (Some found) None) (ap is_lt (sym c.compare.ensures.value) ∙ sym c.is_lt.ensures ∙ c.if-is_lt.true))

pub returns-else-is_lt-clause-pair : goal.returns-else-is_lt-clause-pair
returns-else-is_lt-clause-pair g c =
    let found : g.row.K.Denot × Stretch g.row.K.Denot g.row.V.Denot = (c.in_ok-start.start.now, c.in_ok-start.stretch.now) in
    sym (covered_by g.K.Ord.cmp g.met.K.Ord.total c.args.at.now (entries c.args.map.now) c.requires found (sym c.in_ok-start.ensures.pair)
    ∙ ap (λ t. cond t (Some found) None) (ap is_lt (sym c.compare.ensures.value) ∙ sym c.is_lt.ensures ∙ c.if-is_lt.false))
