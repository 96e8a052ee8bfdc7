-- Copies of slots. No public clause cites this module.
use Rattle.std.specs.Prelude.{◌≡◌, ◌<◌, ◌⊎◌, Any, Option, Some, None}
use Rattle.std.specs.List.{AllZip}
use Rattle.fc_base.specs.declared.try_reserve_error.TryReserveError.{TryReserveError}
use Rattle.fc_base.specs.declared.try_reserve_error.TryReserveError.TheVariants.{AllocError}
use Rattle.fc_base.specs.Copies.{SameContents}
use Rattle.fc_timers.specs.declared.timer.Armed.{Armed}
use Rattle.fc_timers.specs.declared.slot.Slot.{Slot}
use Rattle.fc_timers.specs.Slotted.{Slotted}

module _ {T V : Type 0} (same : V → V → Type 0) where
  -- The timer b is a with a copy of its value.
  abbrev pub SameArmed : Armed T V → Armed T V → Type 0
  SameArmed a b = (b.at ≡ a.at) × (b.turn ≡ a.turn) × (b.number ≡ a.number) × same a.value b.value

  -- The slot t is s with a copy of its timer, if it has one.
  abbrev pub SameSlot : Slot T V → Slot T V → Type 0
  SameSlot s t = SameContents SameArmed s.held t.held × (t.link ≡ s.link)

  -- The same slots, with copies of their timers, and the same number that is given out next.
  pub record AreSlotsCopied (source copy : Slotted T V) : Type 0 where
    pub slots : AllZip (SameContents SameArmed) source.slots copy.slots
    pub number : copy.next_number ≡ source.next_number

module _ {T V : Type 0} (may_refuse : V → TryReserveError → Type 0) where
  -- By which error a copy of a timer that may be there may be refused: one of its value's own.
  abbrev pub MayRefuseHeld : Option (Armed T V) → TryReserveError → Type 0
  MayRefuseHeld None e = ⊥
  MayRefuseHeld (Some a) e = may_refuse a.value e

  abbrev pub MayRefuseSlots : Slotted T V → TryReserveError → Type 0
  MayRefuseSlots q e = (0 < q.room) × ((e ≡ AllocError) ⊎ Any (λ h. MayRefuseHeld h e) q.slots)
