-- Values that are written at timers, which stay where they are.
use Rattle.std.specs.Prelude.{ℕ, if◌then◌else◌, List, map, Option, Some, None}
use Rattle.fc_timers.specs.declared.timer.Timer.{Timer}
use Rattle.fc_timers.specs.declared.timer.Armed.{Armed}
use Rattle.fc_timers.specs.Timers.{is_same, timer_of}

module _ {T V : Type 0} where
  -- The list with this value at a timer, whose entry keeps its time and its turn.
  abbrev pub with_value : List ((T × ℕ) × (Timer × V)) → Timer → V → List ((T × ℕ) × (Timer × V))
  with_value s timer value = map (λ e. if is_same (timer_of e) timer then (e.0, (timer_of e, value)) else e) s

  -- The timer, if there is one, with another value.
  abbrev pub valued : V → Option (Armed T V) → Option (Armed T V)
  valued value None = None
  valued value (Some a) = Some (record a { value = value })
