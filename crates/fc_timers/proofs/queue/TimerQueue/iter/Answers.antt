use Rattle.std.proofs.Common.{IsPermutation, map, count_by, is_some, sym, ap, subst, ◌∙◌, arith}
use Rattle.fc_timers.specs.Heap.{helds}
use Rattle.fc_timers.specs.InOrder.{in_order}
use Rattle.fc_timers.specs.Timers.{turnless}
use Rattle.fc_timers.specs.Walks.{standing}
use Rattle.fc_timers.proofs.OfQueue.{slots_apart}
use Rattle.fc_timers.proofs.Walked.{standing_length, walk_permutes}
use Rattle.fc_timers.proofs.queue.TimerQueue.iter.Goals as goal

pub invariant_of-result : goal.invariant_of-result
invariant_of-result g c = record {
  counted = c.len.ensures.value ∙ ap (count_by is_some) (sym c.row.ensures.slots) ∙ sym (standing_length 0 (helds c.row.result.now));
  within = omega (arith, c.row.ensures.length);
}

pub returns : goal.returns
returns g c =
    let slots = c.self.inside.slots in
    let walk = walk_permutes g.met.T.Ord.total 0 slots.slots (slots_apart slots c.self.invariant.distinct) in
    rw (← c.self.view_is) (subst (λ h. IsPermutation (map turnless (in_order g.T.Ord.cmp slots)) (standing 0 h)) (sym c.row.ensures.slots) walk)
