-- Copies of queues.
use Rattle.std.specs.Prelude.{◌≡◌, ℕ, ◌<◌, ◌⊎◌, Any}
use Rattle.std.specs.List.{AllZip}
use Rattle.fc_base.specs.declared.try_reserve_error.TryReserveError.{TryReserveError}
use Rattle.fc_base.specs.declared.try_reserve_error.TryReserveError.TheVariants.{AllocError}
use Rattle.fc_timers.specs.declared.timer.Timer.{Timer}
use Rattle.fc_timers.specs.Timers.{Queue, timer_of, value_of}

module _ {T V : Type 0} where
  -- The entry g has the time and the turn of e, the same timer, and a copy of its value.
  abbrev pub IsCopy : (V → V → Type 0) → (T × ℕ) × (Timer × V) → (T × ℕ) × (Timer × V) → Type 0
  IsCopy same e g = (g.0 ≡ e.0) × (timer_of g ≡ timer_of e) × same (value_of e) (value_of g)

  -- A queue whose entries are copies of those of the other, in the same order, and which gives out the same turn next.
  abbrev pub IsCopyOf : (V → V → Type 0) → Queue T V → Queue T V → Type 0
  IsCopyOf same source copy = AllZip (IsCopy same) source.timers copy.timers × (copy.next_turn ≡ source.next_turn)

  -- By which error a copy of a queue may be refused: `AllocError`, where its own memory was refused, or an error of one of the values' own. Nothing is
  -- refused where the queue has no room.
  abbrev pub MayRefuseQueue : (V → TryReserveError → Type 0) → Queue T V → TryReserveError → Type 0
  MayRefuseQueue may_refuse q error = (0 < q.room) × ((error ≡ AllocError) ⊎ Any (λ e. may_refuse (value_of e) error) q.timers)
