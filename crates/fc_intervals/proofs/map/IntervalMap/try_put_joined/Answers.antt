use Rattle.std.proofs.Common.{◌∙◌, sym, ap}
use Rattle.std.specs.Ordering.{is_lt}
use Rattle.fc_intervals.proofs.Order.{is_less}
use Rattle.fc_intervals.proofs.map.IntervalMap.try_put_joined.Goals as goal

pub join_ends-requires : goal.join_ends-requires
join_ends-requires g c = is_less _ (ap is_lt (sym c.cmp.ensures) ∙ sym c.is_lt.ensures ∙ c.if-not-is_lt.false)

pub returns-clause-joined : goal.returns-clause-joined
returns-clause-joined g c = λ _. record {
  put = c.try_put.new.self;
  written = c.in_default.ensures.written;
  values = c.join_ends.ensures.values;
  start = c.join_ends.ensures.start;
  end = c.join_ends.ensures.end;
}
