use Rattle.std.proofs.Common.{◌∙◌, inl, arith}
use Rattle.fc_timers.specs.Heap.{links}
use Rattle.fc_timers.proofs.Moves.{closed_heap, closed_len, closed_vacant, vacant_chained}
use Rattle.fc_timers.proofs.heap.settle.Goals as goal

pub returns-then-risen-place-clause-vacant : goal.returns-then-risen-place-clause-vacant
returns-then-risen-place-clause-vacant g c =
    let risen = c.rise-risen.ensures in
    let said = c.set_place.ensures in
    closed_vacant c.rise-risen.new.slots c.rise-risen.new.heap c.rise-risen.result c.args.due risen.gap c.set_place.new.slots c.set_place.new.heap said.held
    said.due said.link (links c.args.slots.now) risen.vacant

pub returns-then-risen-place-clause-len : goal.returns-then-risen-place-clause-len
returns-then-risen-place-clause-len g c =
    let risen = c.rise-risen.ensures in
    let said = c.set_place.ensures in
    closed_len c.rise-risen.new.slots c.rise-risen.new.heap c.rise-risen.result c.args.due risen.gap c.set_place.new.slots c.set_place.new.heap said.held
    said.due said.link ∙ risen.len

pub returns-then-risen-place-clause-heap : goal.returns-then-risen-place-clause-heap
returns-then-risen-place-clause-heap g c =
    let risen = c.rise-risen.ensures in
    let said = c.set_place.ensures in
    closed_heap c.rise-risen.new.slots c.rise-risen.new.heap c.rise-risen.result c.args.due risen.gap c.set_place.new.slots c.set_place.new.heap said.held
    said.due said.link risen.under (risen.over (inl (omega (arith, c.if-risen-place.true))))

pub returns-else-risen-place-clause-vacant : goal.returns-else-risen-place-clause-vacant
returns-else-risen-place-clause-vacant g c =
    let sunk = c.sink-sunk.ensures in
    let put = c.set_place-else-risen-place in
    let said = put.ensures in
    closed_vacant c.sink-sunk.new.slots c.sink-sunk.new.heap c.sink-sunk.result c.args.due sunk.gap put.new.slots put.new.heap said.held
    said.due said.link (links c.args.slots.now)
    (vacant_chained c.rise-risen.new.slots c.sink-sunk.new.slots (links c.args.slots.now) sunk.held sunk.vacant c.rise-risen.ensures.vacant)

pub returns-else-risen-place-clause-len : goal.returns-else-risen-place-clause-len
returns-else-risen-place-clause-len g c =
    let sunk = c.sink-sunk.ensures in
    let put = c.set_place-else-risen-place in
    let said = put.ensures in
    closed_len c.sink-sunk.new.slots c.sink-sunk.new.heap c.sink-sunk.result c.args.due sunk.gap put.new.slots put.new.heap said.held
    said.due said.link ∙ sunk.len ∙ c.rise-risen.ensures.len

pub returns-else-risen-place-clause-heap : goal.returns-else-risen-place-clause-heap
returns-else-risen-place-clause-heap g c =
    let sunk = c.sink-sunk.ensures in
    let put = c.set_place-else-risen-place in
    let said = put.ensures in
    closed_heap c.sink-sunk.new.slots c.sink-sunk.new.heap c.sink-sunk.result c.args.due sunk.gap put.new.slots put.new.heap said.held
    said.due said.link sunk.under sunk.over
