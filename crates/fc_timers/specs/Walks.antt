-- Walks over the timers of a queue.
use Rattle.std.specs.Prelude.{◌≡◌, ℕ, ◌+◌, ◌^◌, ◌<◌, length, List, [], ◌∷◌, Option, Some, None}
use Rattle.std.specs.Borrow.{Bor}
use Rattle.fc_timers.specs.declared.timer.Timer.{Timer}
use Rattle.fc_timers.specs.declared.timer.Armed.{Armed}
use Rattle.fc_timers.specs.declared.slot.Slot.{Slot}
use Rattle.fc_timers.specs.Heap.{helds}

module _ {T V : Type 0} where
  -- What a walk gives of a timer, with its time and its value read.
  abbrev pub deref_timer : Timer × Bor T × Bor V → Timer × T × V
  deref_timer x = (x.0, x.1.now, x.2.now)

  -- The timers that stand in these slots, of which the first is slot k, each with its time and its value.
  abbrev pub standing : ℕ → List (Option (Armed T V)) → List (Timer × T × V)
  standing k [] = []
  standing k (None ∷ slots) = standing (k + 1) slots
  standing k (Some a ∷ slots) = (record { slot = k; number = a.number }, a.at, a.value) ∷ standing (k + 1) slots

  -- So many timers stand in these slots, of which the first is slot k.
  pub record AreLeft (k : ℕ) (slots : List (Slot T V)) (left : ℕ) : Type 0 where
    pub counted : left ≡ length (standing k (helds slots))
    pub within : k + length slots < 2 ^ 64
