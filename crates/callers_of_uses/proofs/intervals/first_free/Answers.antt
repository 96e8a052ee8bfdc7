use Rattle.fc_intervals.proofs.Laws.{no_number_in_next}
use Rattle.callers_of_uses.proofs.intervals.first_free.Goals as goal

pub returns : goal.returns
returns c = no_number_in_next c.args.nights.now c.args.from c.args.to c.gaps.result c.next.new.self c.next.result c.gaps.ensures.gaps c.next.ensures.steps
