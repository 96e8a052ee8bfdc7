use Rattle.std.proofs.Common.{rules, ◌∙◌, refl, ap}
use denote.Param.Always.{mut_next}
use Rattle.fc_timers.specs.Timers.{GivenTimer}
use Rattle.fc_timers.proofs.Drained.{all_drained, drained_further, none_drained}
use Rattle.fc_timers.proofs.queue.TimerQueue.drain_due.Goals as goal

pub due-init : goal.due-init
due-init g c = record {
  callable = c.requires.callable;
  drained = none_drained g.T.Ord.cmp (GivenTimer g.F.FnMut) c.args.now.now c.args.f c.args.self.now.timers;
  order = λ is. is;
  turn = refl;
  room = refl;
}

pub due-preserved : goal.due-preserved
due-preserved g c = record {
  callable = mut_next g.F.FnMut _ _ _ _ _ c.f.ensures refl c.due.invariant.callable;
  drained = drained_further g.T.Ord.cmp (GivenTimer g.F.FnMut) c.args.now.now _ _ _ _ _ _
      ((c.in-Some.at, c.in-Some.ensures.popped.0), (c.in-Some.timer, c.in-Some.value)) c.due.invariant.drained c.in-Some.ensures.popped.1
      c.in-Some.ensures.due (search rules);
  order = λ is. c.due.invariant.order c.pop_due.ensures.in_order;
  turn = c.pop_due.ensures.turn ∙ c.due.invariant.turn;
  room = c.pop_due.ensures.room ∙ c.due.invariant.room;
}

pub returns-clause-timers : goal.returns-clause-timers
returns-clause-timers g c =
    ap (λ q. q.timers) c.in_default.ensures.unchanged
    ∙ (all_drained g.T.Ord.cmp (GivenTimer g.F.FnMut) c.args.now.now _ _ _ _ c.due.invariant.drained c.in_default.ensures.none).0

pub returns-clause-handed : goal.returns-clause-handed
returns-clause-handed g c =
    (c.due.f, (all_drained g.T.Ord.cmp (GivenTimer g.F.FnMut) c.args.now.now _ _ _ _ c.due.invariant.drained c.in_default.ensures.none).1)

pub returns-clause-in_order : goal.returns-clause-in_order
returns-clause-in_order g c = c.due.invariant.order c.pop_due.ensures.in_order
