use Rattle.std.proofs.Common.{◌≡◌, ◌⊎◌, ◌∙◌, None, IfErr, true, false, sym, ap, subst}
use Rattle.std.specs.Ordering.{is_lt}
use Rattle.fc_intervals.specs.Handed.{MayRefuseCopy}
use Rattle.fc_intervals.specs.Refusals.{MayRefuseRest}
use Rattle.fc_intervals.proofs.Handed.{sure_cut}
use Rattle.fc_intervals.proofs.Order.{is_less}
use Rattle.fc_intervals.proofs.Written.{empty_written}
use Rattle.fc_intervals.proofs.map.IntervalMap.try_cut_with.Goals as goal

pub clear_with-requires-clause-range : goal.clear_with-requires-clause-range
clear_with-requires-clause-range g c = is_less _ (ap is_lt (sym c.cmp.ensures) ∙ sym c.is_lt.ensures ∙ c.if-is_lt.true)

pub returns-then-is_lt-clause-empty : goal.returns-then-is_lt-clause-empty
returns-then-is_lt-clause-empty g c = λ empty. absurd (
    let no : true ≡ false = sym c.if-is_lt.true ∙ c.is_lt.ensures ∙ ap is_lt c.cmp.ensures ∙ empty in
    cc
    )

pub returns-else-is_lt-clause-written : goal.returns-else-is_lt-clause-written
returns-else-is_lt-clause-written g c =
    empty_written g.K.Ord.cmp g.met.K.Ord.total g.V.TryClone.same c.args.range.start c.args.range.end None c.args.self.now
    (ap is_lt (sym c.cmp.ensures) ∙ sym c.is_lt.ensures ∙ c.if-is_lt.false)

pub returns-then-is_lt-clause-error : goal.returns-then-is_lt-clause-error
returns-then-is_lt-clause-error g c =
    subst (λ s. IfErr c.clear_with.result (λ e. MayRefuseCopy g.K.Ord.cmp g.V.TryClone.may_refuse s c.args.range.start e
    ⊎ MayRefuseRest g.K.Ord.cmp g.V.TryClone.may_refuse s c.args.range.end e)) c.self.view_is c.clear_with.ensures.error

pub returns-then-is_lt-clause-sure : goal.returns-then-is_lt-clause-sure
returns-then-is_lt-clause-sure g c =
    rw (← c.self.view_is) (sure_cut g.K.Ord.cmp g.V.TryClone.may_refuse _ c.args.range.start c.args.range.end c.clear_with.result
    c.clear_with.ensures.error)
