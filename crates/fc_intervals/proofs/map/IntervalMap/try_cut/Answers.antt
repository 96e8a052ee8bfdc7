use Rattle.std.proofs.Common.{◌≡◌, ◌∙◌, None, true, false, sym, ap}
use Rattle.std.specs.Ordering.{is_lt, is_le}
use Rattle.fc_intervals.proofs.Order.{is_less}
use Rattle.fc_intervals.proofs.Put.{sure_rest}
use Rattle.fc_intervals.proofs.Written.{empty_written}
use Rattle.fc_intervals.proofs.map.IntervalMap.try_cut.Goals as goal

pub cut_over-requires-clause-range : goal.cut_over-requires-clause-range
cut_over-requires-clause-range g c = ap is_le (is_less _ (ap is_lt (sym c.cmp.ensures) ∙ sym c.is_lt.ensures ∙ c.if-is_lt.true))

pub returns-then-is_lt-clause-empty : goal.returns-then-is_lt-clause-empty
returns-then-is_lt-clause-empty g c = λ empty. absurd (
    let no : true ≡ false = sym c.if-is_lt.true ∙ c.is_lt.ensures ∙ ap is_lt c.cmp.ensures ∙ empty in
    cc
    )

pub returns-else-is_lt-clause-written : goal.returns-else-is_lt-clause-written
returns-else-is_lt-clause-written g c =
    empty_written g.K.Ord.cmp g.met.K.Ord.total g.V.TryClone.same c.args.range.start c.args.range.end None c.args.self.now
    (ap is_lt (sym c.cmp.ensures) ∙ sym c.is_lt.ensures ∙ c.if-is_lt.false)

pub returns-then-is_lt-clause-sure : goal.returns-then-is_lt-clause-sure
returns-then-is_lt-clause-sure g c =
    sure_rest g.K.Ord.cmp g.V.TryClone.may_refuse c.args.self.now c.args.range.end c.cut_over.result c.cut_over.ensures.error
