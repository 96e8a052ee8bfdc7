use Rattle.std.proofs.Common.{◌∙◌, refl, sym, ap, inl}
use Rattle.std.specs.Ordering.{is_lt}
use Rattle.std.proofs.lemmas.Result.{err_from_is_err_and}
use Rattle.fc_intervals.specs.declared.stretch.Stretch.{Stretch}
use Rattle.fc_intervals.proofs.steps.rest_after.Goals as goal

pub returns-in_err-value : goal.returns-in_err-value
returns-in_err-value g c =
    let last : g.row.K.Denot × Stretch g.row.K.Denot g.row.V.Denot = (c.in-Some.field-0-0.now, c.in-Some.stretch.now) in
    let pair = sym c.in-Some.ensures.pair in
    let across = ap is_lt (sym c.cmp.ensures) ∙ sym c.is_lt.ensures ∙ c.if-not-is_lt.false in
    let p = err_from_is_err_and c.from_residual.result c.from_residual.ensures.1 in
    rw (p.1, p.2) (record {
      rest = tt;
      error = (last, pair, across, inl c.in_err-value.ensures);
      copy = (last, pair, across, c.in_err-value.ensures);
    })

pub returns-clause-rest : goal.returns-clause-rest
returns-clause-rest g c =
    let last : g.row.K.Denot × Stretch g.row.K.Denot g.row.V.Denot = (c.in-Some.field-0-0.now, c.in-Some.stretch.now) in (
      last,
      sym c.in-Some.ensures.pair,
      ap is_lt (sym c.cmp.ensures) ∙ sym c.is_lt.ensures ∙ c.if-not-is_lt.false,
      refl,
      c.in_ok-value.ensures,
    )
