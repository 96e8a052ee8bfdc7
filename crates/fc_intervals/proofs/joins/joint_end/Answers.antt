use Rattle.std.proofs.Common.{◌∙◌, refl, sym, ap}
use Rattle.std.specs.Ordering.{is_eq}
use Rattle.fc_base.proofs.AscendingFacts.{is_equal}
use Rattle.fc_intervals.proofs.joins.joint_end.Goals as goal

pub returns-then-eq-clause-joint : goal.returns-then-eq-clause-joint
returns-then-eq-clause-joint g c = (
  (c.in_ok-first.field-0-0.now, c.in_ok-first.first.now),
  c.in_ok-second.second.now,
  record {
    last = sym c.in_ok-first.ensures.pair;
    starts = sym c.in_ok-second.ensures.value;
    touch = is_equal _ (ap is_eq (sym c.cmp.ensures) ∙ sym c.is_eq.ensures ∙ c.if-is_eq.true);
    equal = sym c.eq.ensures ∙ c.if-eq.true;
  },
  refl,
)
