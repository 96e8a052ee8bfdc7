-- A queue of timers as a list: its timers in the order in which they come out.
use Rattle.std.specs.Prelude.{◌≡◌, ℕ, ◌<◌, ◌≤◌, ◌==◌, ◌&&◌, Bool, true, not, List, [], ◌∷◌, Option, Some, None, All, filter, find}
use Rattle.std.specs.Fn.{Mut, Called}
use Rattle.std.specs.Ordering.{is_gt, is_le, nat_cmp, ordering_then}
use Rattle.std.specs.declared.cmp.Ordering.{Ordering}
use Rattle.fc_base.specs.Ascending.{IsAscending}
use Rattle.fc_timers.specs.declared.timer.Timer.{Timer}

-- A queue as contracts see it: its timers in the order in which they come out, each with its value, at its time and turn; the turn that is given
-- out next; and how many timers fit before the next request for memory.
pub record Queue (T V : Type 0) : Type 0 where
  pub timers : List ((T × ℕ) × (Timer × V))
  pub next_turn : ℕ
  pub room : ℕ

-- The turn that a timer was inserted with, by which no other timer of its queue is named.
abbrev pub first_turn : Timer → ℕ
first_turn timer = timer.number

-- Whether both are one timer.
abbrev pub is_same : Timer → Timer → Bool
is_same a b = (a.number == b.number) && (a.slot == b.slot)

-- The order of a time and a turn: that of the times, and at one time that of the turns.
abbrev pub by_time_then_turn : {T : Type 0} → (T → T → Ordering) → T × ℕ → T × ℕ → Ordering
by_time_then_turn cmp a b = ordering_then (cmp a.0 b.0) (nat_cmp a.1 b.1)

module _ {T V : Type 0} where
  -- What an entry of the list has.
  abbrev pub time_of : (T × ℕ) × (Timer × V) → T
  time_of e = e.0.0

  abbrev pub turn_of : (T × ℕ) × (Timer × V) → ℕ
  turn_of e = e.0.1

  abbrev pub timer_of : (T × ℕ) × (Timer × V) → Timer
  timer_of e = e.1.0

  abbrev pub value_of : (T × ℕ) × (Timer × V) → V
  value_of e = e.1.1

  -- An entry without its turn.
  abbrev pub turnless : (T × ℕ) × (Timer × V) → Timer × T × V
  turnless e = (timer_of e, time_of e, value_of e)

  -- The entry of a timer, and none where it is not in the list.
  abbrev pub found : List ((T × ℕ) × (Timer × V)) → Timer → Option ((T × ℕ) × (Timer × V))
  found s timer = find (λ e. is_same (timer_of e) timer) s

  -- The list without the entry of a timer.
  abbrev pub without : List ((T × ℕ) × (Timer × V)) → Timer → List ((T × ℕ) × (Timer × V))
  without s timer = filter (λ e. not (is_same (timer_of e) timer)) s

  -- No two entries have one turn: each is the first that is found by its turn.
  abbrev pub HaveTurnsApart : List ((T × ℕ) × (Timer × V)) → Type 0
  HaveTurnsApart s = All (λ e. find (λ other. turn_of other == turn_of e) s ≡ Some e) s

  -- A timer that came out or was cancelled: one whose first turn was given out, and that is not found.
  abbrev pub IsGone : Queue T V → Timer → Type 0
  IsGone q timer = (first_turn timer < q.next_turn) × (found q.timers timer ≡ None)

  module _ (cmp : T → T → Ordering) where
    -- The entries that are due at this time, in order.
    abbrev pub due_by : List ((T × ℕ) × (Timer × V)) → T → List ((T × ℕ) × (Timer × V))
    due_by s now = filter (λ e. is_le (cmp (time_of e) now)) s

    -- The entries that are due after this time, in order.
    abbrev pub due_after : List ((T × ℕ) × (Timer × V)) → T → List ((T × ℕ) × (Timer × V))
    due_after s now = filter (λ e. is_gt (cmp (time_of e) now)) s

    -- No timer is due at this time.
    abbrev pub NoneDue : List ((T × ℕ) × (Timer × V)) → T → Type 0
    NoneDue s now = All (λ e. is_gt (cmp (time_of e) now) ≡ true) s

    -- The list ascends. Each timer stands there once, with a turn that was given out, as its first one was.
    pub record IsInOrder (q : Queue T V) : Type 0 where
      pub ascending : IsAscending (by_time_then_turn cmp) q.timers
      pub given_out : All (λ e. (turn_of e < q.next_turn) × (first_turn (timer_of e) < q.next_turn)) q.timers
      pub once : All (λ e. found q.timers (timer_of e) ≡ Some e) q.timers

-- A call of f with the timer, the time and the value may leave f'.
abbrev pub GivenTimer : {F T V : Type 0} → Mut F (Timer × (T × (V × Unit {0}))) (Unit {0}) → F → (T × ℕ) × (Timer × V) → F → Type 0
GivenTimer g f e f' = Called g f (timer_of e, (time_of e, (value_of e, tt))) tt f'

-- Calls by R with these entries in turn took f to f'.
abbrev pub HandsInTurn : {F E : Type 0} → (F → E → F → Type 0) → F → List E → F → Type 0
HandsInTurn R f [] f' = f' ≡ f
HandsInTurn {F} R f (e ∷ es) f' = (g : F) × R f e g × HandsInTurn R g es f'
