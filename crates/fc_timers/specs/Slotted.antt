-- Timers in the slots of a queue: what stands at each, and which of them comes out first. No public clause cites this module.
use Rattle.std.specs.Prelude.{◌≡◌, ◌≢◌, ℕ, ◌<◌, ◌==◌, leb, Bool, true, false, if◌then◌else◌, List}
use Rattle.std.specs.Prelude.{Option, Some, None, is_some, count_by, slice_index_or}
use Rattle.std.specs.Ordering.{is_le, is_gt}
use Rattle.std.specs.declared.cmp.Ordering.{Ordering}
use Rattle.std.specs.declared.cmp.Ordering.TheVariants.{Less, Equal, Greater}
use Rattle.fc_timers.specs.declared.timer.Timer.{Timer}
use Rattle.fc_timers.specs.declared.timer.Armed.{Armed}

-- The slots of a queue as their contracts see them: the timer that stands in each slot, where one does, the number and turn that are given out next, and
-- how many timers fit before the next request for memory.
pub record Slotted (T V : Type 0) : Type 0 where
  pub slots : List (Option (Armed T V))
  pub next_number : ℕ
  pub room : ℕ

module _ {T V : Type 0} where
  -- The timer, where it has the number.
  abbrev pub with_number : ℕ → Option (Armed T V) → Option (Armed T V)
  with_number n None = None
  with_number n (Some a) = if a.number == n then Some a else None

  -- What stands at a timer: its time, its turn and its value, and nothing where it is not in the queue.
  abbrev pub armed : Slotted T V → Timer → Option (Armed T V)
  armed q timer = with_number timer.number (slice_index_or q.slots timer.slot None)

  -- The number of timers.
  abbrev pub timer_count : Slotted T V → ℕ
  timer_count q = count_by is_some q.slots

  -- What an insertion puts in.
  abbrev pub newly : Slotted T V → T → V → Armed T V
  newly q at value = record { at = at; turn = q.next_number; number = q.next_number; value = value }

  -- The timer, if there is one, with another time and turn.
  abbrev pub renewed : T → ℕ → Option (Armed T V) → Option (Armed T V)
  renewed at turn None = None
  renewed at turn (Some a) = Some (record a { at = at; turn = turn })

  -- The one timer has this after a call, or is in the queue no more. Each other timer has what it had.
  pub record IsChanged (old new : Slotted T V) (timer : Timer) (now : Option (Armed T V)) : Type 0 where
    pub here : armed new timer ≡ now
    pub others : (other : Timer) → other ≢ timer → armed new other ≡ armed old other

  -- Each timer of the queue has a number and a turn that were given out, so that the next one is after all, and no two have one turn.
  pub record AreGivenOut (q : Slotted T V) : Type 0 where
    pub numbers : (timer : Timer) (a : Armed T V) → armed q timer ≡ Some a → timer.number < q.next_number
    pub turns : (timer : Timer) (a : Armed T V) → armed q timer ≡ Some a → a.turn < q.next_number
    pub distinct : (one other : Timer) (a b : Armed T V) → armed q one ≡ Some a → armed q other ≡ Some b → a.turn ≡ b.turn → one ≡ other

  -- No timer is in the queue.
  abbrev pub HasNone : Slotted T V → Type 0
  HasNone q = (timer : Timer) → armed q timer ≡ None

-- Whether a time and a turn come first: by the time, and at one time by the turn.
abbrev pub by_turn : Ordering → Bool → Bool
by_turn Less _ = true
by_turn Equal turns = turns
by_turn Greater _ = false

module _ {T : Type 0} (cmp : T → T → Ordering) where
  abbrev pub due_first : T → ℕ → T → ℕ → Bool
  due_first s m t n = by_turn (cmp s t) (leb m n)

module _ {T V : Type 0} (cmp : T → T → Ordering) where
  -- Whether the one timer comes out before the other.
  abbrev pub precedes : Armed T V → Armed T V → Bool
  precedes a b = due_first cmp a.at a.turn b.at b.turn

  -- A timer of the queue, which precedes each of them.
  pub record IsEarliest (q : Slotted T V) (timer : Timer) (a : Armed T V) : Type 0 where
    pub stands : armed q timer ≡ Some a
    pub first : (other : Timer) (b : Armed T V) → armed q other ≡ Some b → precedes a b ≡ true

  -- The earliest timer, which was due at this time, was taken out.
  pub record IsPopped (old new : Slotted T V) (now : T) (timer : Timer) (taken : Armed T V) : Type 0 where
    pub earliest : IsEarliest old timer taken
    pub due : is_le (cmp taken.at now) ≡ true
    pub changed : IsChanged old new timer None

  -- No timer is due at this time.
  abbrev pub NoneDue : Slotted T V → T → Type 0
  NoneDue q now = (timer : Timer) (a : Armed T V) → armed q timer ≡ Some a → is_gt (cmp a.at now) ≡ true
