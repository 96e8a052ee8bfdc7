use Rattle.std.proofs.Common.{min, vec_capacity, subst}
use Rattle.std.specs.List.{slice_get}
use Rattle.std.specs.Slice.{IsItemAt}
use Rattle.fc_timers.specs.Slotted.{Slotted}
use Rattle.fc_timers.specs.Heap.{helds, link_at}
use Rattle.fc_timers.proofs.Standing.{lent_at, top_none, top_some}
use Rattle.fc_timers.proofs.slots.Slots.first.Goals as goal

pub returns : goal.returns
returns g c =
    let slots = c.self.inside.slots.items in
    let heap = c.self.inside.heap.items in
    let seen : Slotted g.row.T.Denot g.row.V.Denot =
    record { slots = helds slots; next_number = c.self.inside.next_number; room = min (vec_capacity c.self.inside.slots) (vec_capacity c.self.inside.heap) } in
    let lent = subst (λ l. IsItemAt l 0 c.get.result) c.deref.ensures.value c.get.ensures.lookup in
    let named = lent_at heap 0 _ lent in
    let heaped = c.self.invariant.0.heaped in
    rw (← c.self.view_is) record {
      none = top_none g.met.T.Ord.total seen (slice_get heap) (link_at slots) heaped.indexed heaped.ordered _ named;
      earliest = top_some g.met.T.Ord.total seen (slice_get heap) (link_at slots) heaped.indexed heaped.ordered _ named;
    }
