use Rattle.std.proofs.Common.{◌∙◌, inr}
use Rattle.fc_timers.specs.Heap.{links}
use Rattle.fc_timers.proofs.Moves.{closed_heap, closed_len, closed_vacant}
use Rattle.fc_timers.proofs.heap.settle_up.Goals as goal

pub returns-clause-vacant : goal.returns-clause-vacant
returns-clause-vacant g c =
    let risen = c.rise-risen.ensures in
    let said = c.set_place.ensures in
    closed_vacant c.rise-risen.new.slots c.rise-risen.new.heap c.rise-risen.result c.args.due risen.gap c.set_place.new.slots c.set_place.new.heap said.held
    said.due said.link (links c.args.slots.now) risen.vacant

pub returns-clause-len : goal.returns-clause-len
returns-clause-len g c =
    let risen = c.rise-risen.ensures in
    let said = c.set_place.ensures in
    closed_len c.rise-risen.new.slots c.rise-risen.new.heap c.rise-risen.result c.args.due risen.gap c.set_place.new.slots c.set_place.new.heap said.held
    said.due said.link ∙ risen.len

pub returns-clause-heap : goal.returns-clause-heap
returns-clause-heap g c =
    let risen = c.rise-risen.ensures in
    let said = c.set_place.ensures in
    closed_heap c.rise-risen.new.slots c.rise-risen.new.heap c.rise-risen.result c.args.due risen.gap c.set_place.new.slots c.set_place.new.heap said.held
    said.due said.link risen.under (risen.over (inr c.requires.over))
