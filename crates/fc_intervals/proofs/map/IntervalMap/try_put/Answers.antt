use Rattle.std.proofs.Common.{◌≡◌, ◌∙◌, Some, true, false, sym, ap}
use Rattle.std.specs.Ordering.{is_lt}
use Rattle.fc_intervals.proofs.Order.{is_less}
use Rattle.fc_intervals.proofs.Put.{sure_put}
use Rattle.fc_intervals.proofs.Written.{empty_written}
use Rattle.fc_intervals.proofs.map.IntervalMap.try_put.Goals as goal

pub put_over-requires-clause-range : goal.put_over-requires-clause-range
put_over-requires-clause-range g c = is_less _ (ap is_lt (sym c.cmp.ensures) ∙ sym c.is_lt.ensures ∙ c.if-is_lt.true)

pub returns-then-is_lt-clause-empty : goal.returns-then-is_lt-clause-empty
returns-then-is_lt-clause-empty g c = λ empty. absurd (
    let no : true ≡ false = sym c.if-is_lt.true ∙ c.is_lt.ensures ∙ ap is_lt c.cmp.ensures ∙ empty in
    cc
    )

pub returns-else-is_lt-clause-written : goal.returns-else-is_lt-clause-written
returns-else-is_lt-clause-written g c =
    empty_written g.K.Ord.cmp g.met.K.Ord.total g.V.TryClone.same c.args.range.start c.args.range.end (Some c.args.value) c.args.self.now
    (ap is_lt (sym c.cmp.ensures) ∙ sym c.is_lt.ensures ∙ c.if-is_lt.false)

pub returns-then-is_lt-clause-sure : goal.returns-then-is_lt-clause-sure
returns-then-is_lt-clause-sure g c =
    sure_put g.K.Ord.cmp g.V.TryClone.may_refuse c.args.self.now c.args.range.end c.args.range.start c.put_over.result c.put_over.ensures.error
