-- The timers in the slots of a queue, as a list in the order in which they come out. No public clause cites this module.
use Rattle.std.specs.Prelude.{◌≡◌, ℕ, ◌+◌, List, [], ◌∷◌, Option, Some, None}
use Rattle.std.specs.declared.cmp.Ordering.{Ordering}
use Rattle.fc_base.specs.Ascending.{IsAscending}
use Rattle.fc_base.specs.OneKey.{put}
use Rattle.fc_base.specs.Parts.{at}
use Rattle.fc_timers.specs.declared.timer.Timer.{Timer}
use Rattle.fc_timers.specs.declared.timer.Armed.{Armed}
use Rattle.fc_timers.specs.Slotted.{Slotted, armed}
use Rattle.fc_timers.specs.Timers.{by_time_then_turn}

-- A timer with its value, at its time and its turn.
abbrev pub entry : {T V : Type 0} → Timer → Armed T V → (T × ℕ) × (Timer × V)
entry timer a = ((a.at, a.turn), (timer, a.value))

module _ {T V : Type 0} (cmp : T → T → Ordering) where
  -- The timers of these slots, of which the first is slot k.
  abbrev pub listed : ℕ → List (Option (Armed T V)) → List ((T × ℕ) × (Timer × V))
  listed k [] = []
  listed k (None ∷ slots) = listed (k + 1) slots
  listed k (Some a ∷ slots) = put (by_time_then_turn cmp) (listed (k + 1) slots) (a.at, a.turn) (record { slot = k; number = a.number }, a.value)

  -- The timers in the slots, ordered by their times, and at one time by their turns.
  abbrev pub in_order : Slotted T V → List ((T × ℕ) × (Timer × V))
  in_order q = listed 0 q.slots

  -- The list ascends, each entry of it is that of a timer in a slot, and each such timer has its entry there.
  pub record IsListOf (q : Slotted T V) (s : List ((T × ℕ) × (Timer × V))) : Type 0 where
    pub ascending : IsAscending (by_time_then_turn cmp) s
    pub each : (k : T × ℕ) (e : (T × ℕ) × (Timer × V)) → at (by_time_then_turn cmp) s k ≡ Some e
        → (a : Armed T V) × (armed q e.1.0 ≡ Some a) × (e ≡ entry e.1.0 a)
    pub all : (timer : Timer) (a : Armed T V) → armed q timer ≡ Some a → at (by_time_then_turn cmp) s (a.at, a.turn) ≡ Some (entry timer a)
