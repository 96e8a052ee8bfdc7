use Rattle.std.proofs.Common.{length, refl, ap, arith}
use Rattle.fc_timers.proofs.Kept.{room_kept, sound_pushed}
use Rattle.fc_timers.proofs.slots.Slots.add_slot.Goals as goal

pub invariant_of-self-2 : goal.invariant_of-self-2
invariant_of-self-2 g c =
    let made = c.in_ok-reserve_both.ensures.room_of_other in
    let full = rw (← c.self.view_is) at c.requires.full in (
      rw (c.push_reserved.ensures.items, c.reserve_both.ensures.one, c.reserve_both.ensures.other, c.len-slot.ensures)
          (sound_pushed c.self.inside.slots.items c.self.inside.heap.items _ c.self.inside.vacant c.self.invariant.0 _ refl refl _
          (omega (arith, c.self.inside.slots.ok))),
      room_kept c.self.inside.slots.items c.self.inside.heap.items _ _ full c.self.invariant.0.counted
          (omega (arith, made, c.self.inside.heap.ok))
          (omega (arith, c.push_reserved.ensures.len, c.push_reserved.new.self.ok, c.reserve_both.new.one.ok, ap length c.reserve_both.ensures.one)),
    )
