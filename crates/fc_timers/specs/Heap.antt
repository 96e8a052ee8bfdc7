-- The heap of a queue, and the slots that its timers stand in. No public clause cites this module.
use Rattle.std.specs.Prelude.{◌≡◌, ◌≢◌, ℕ, zero, suc, ◌+◌, ◌*◌, ◌^◌, ◌<◌, ◌≤◌, ◌==◌, true, if◌then◌else◌, List, map, Option, Some, None, is_some, count_by, length, slice_get, slice_index_or}
use Rattle.std.specs.declared.cmp.Ordering.{Ordering}
use Rattle.fc_timers.specs.declared.timer.Armed.{Armed}
use Rattle.fc_timers.specs.declared.slot.Due.{Due}
use Rattle.fc_timers.specs.declared.slot.Slot.{Slot}
use Rattle.fc_timers.specs.Slotted.{Slotted, IsEarliest, due_first}

module _ {T V : Type 0} where
  abbrev pub helds : List (Slot T V) → List (Option (Armed T V))
  helds slots = map (λ s. s.held) slots

  abbrev pub links : List (Slot T V) → List ℕ
  links slots = map (λ s. s.link) slots

  -- The timer in a slot, and where a slot leads.
  abbrev pub held_at : List (Slot T V) → ℕ → Option (Armed T V)
  held_at slots k = slice_index_or (helds slots) k None

  abbrev pub link_at : List (Slot T V) → ℕ → ℕ
  link_at slots k = slice_index_or (links slots) k 0

  -- From this slot on so many hold no timer, of which each names the next, and the last one names none.
  abbrev pub IsVacantList : List (Option (Armed T V)) → List ℕ → ℕ → ℕ → Type 0
  IsVacantList held next zero k = 2 ^ 64 ≤ k + 1
  IsVacantList held next (suc n) k = (k < length held) × (slice_index_or held k None ≡ None) × IsVacantList held next n (slice_index_or next k 0)

  -- When the timer in slot k is due.
  abbrev pub own_due : ℕ → Option (Armed T V) → Option (Due T)
  own_due k None = None
  own_due k (Some a) = Some (record { at = a.at; turn = a.turn; slot = k })

  -- What stands at a place is a timer that stands in its slot, which leads back to the place; and so each timer has its place.
  pub record IsIndexed (held : ℕ → Option (Armed T V)) (due : ℕ → Option (Due T)) (link : ℕ → ℕ) : Type 0 where
    pub named : (k : ℕ) (d : Due T) → due k ≡ Some d → (own_due d.slot (held d.slot) ≡ Some d) × (link d.slot ≡ k)
    pub placed : (k : ℕ) (a : Armed T V) → held k ≡ Some a → due (link k) ≡ own_due k (Some a)

  -- Each timer has a number and a turn below this one, and no two have one turn.
  pub record IsGivenOut (held : List (Option (Armed T V))) (next_number : ℕ) : Type 0 where
    pub below : (k : ℕ) (a : Armed T V) → slice_index_or held k None ≡ Some a → (a.number < next_number) × (a.turn < next_number)
    pub distinct : (j k : ℕ) (a b : Armed T V) → slice_index_or held j None ≡ Some a → slice_index_or held k None ≡ Some b → a.turn ≡ b.turn → j ≡ k

  -- Slots lead where they led, but for those that hold a timer now.
  abbrev pub AreVacantKept : List (Slot T V) → List ℕ → Type 0
  AreVacantKept slots was = (k : ℕ) → held_at slots k ≡ None → link_at slots k ≡ slice_index_or was k 0

-- Of places of a heap: the one has the other right below it.
abbrev pub IsAbove : ℕ → ℕ → Type 0
IsAbove j k = (4 * j < k) × (k ≤ 4 * j + 4)

-- With x at place p.
abbrev pub put_at : {X : Type 0} → (ℕ → X) → ℕ → X → ℕ → X
put_at f p x k = if k == p then x else f k

module _ {T : Type 0} (cmp : T → T → Ordering) where
  -- The one is not due after the other; what is not there is due after all.
  abbrev pub IsAtMost : Option (Due T) → Option (Due T) → Type 0
  IsAtMost a None = Unit {0}
  IsAtMost None (Some b) = ⊥
  IsAtMost (Some a) (Some b) = due_first cmp a.at a.turn b.at b.turn ≡ true

  -- What stands at a place is due after nothing below it.
  abbrev pub IsOrdered : (ℕ → Option (Due T)) → Type 0
  IsOrdered due = (j k : ℕ) → IsAbove j k → IsAtMost (due j) (due k)

  -- The same, whatever stands at place p: so what stands above p is due after nothing below p.
  pub record IsOrderedBut (due : ℕ → Option (Due T)) (p : ℕ) : Type 0 where
    pub others : (j k : ℕ) → IsAbove j k → j ≢ p → k ≢ p → IsAtMost (due j) (due k)
    pub across : (j k : ℕ) → IsAbove j p → IsAbove p k → IsAtMost (due j) (due k)

  -- What stands above place p is not due after d, and d not after what stands below it.
  abbrev pub IsUnder : (ℕ → Option (Due T)) → ℕ → Due T → Type 0
  IsUnder due p d = (j : ℕ) → IsAbove j p → IsAtMost (due j) (Some d)

  abbrev pub IsOver : (ℕ → Option (Due T)) → ℕ → Due T → Type 0
  IsOver due p d = (k : ℕ) → IsAbove p k → IsAtMost (Some d) (due k)

  -- At place p, of those from one place to before another one, stands what is due first.
  pub record IsFirstOf (due : ℕ → Option (Due T)) (from to p : ℕ) : Type 0 where
    pub within : (from ≤ p) × (p < to)
    pub first : (k : ℕ) → from ≤ k → k < to → IsAtMost (due p) (due k)

  -- At place k, right below place p, stands d, and nothing below p is due before it.
  pub record IsFirstBelow (due : ℕ → Option (Due T)) (p k : ℕ) (d : Due T) : Type 0 where
    pub below : IsAbove p k
    pub stands : due k ≡ Some d
    pub first : IsOver due p d

module _ {T V : Type 0} (cmp : T → T → Ordering) where
  -- The places are a heap of the timers in the slots.
  pub record IsHeap (slots : List (Slot T V)) (heap : List (Due T)) : Type 0 where
    pub indexed : IsIndexed (held_at slots) (slice_get heap) (link_at slots)
    pub ordered : IsOrdered cmp (slice_get heap)

  -- They are one, but for the order at place p, once d stands there.
  pub record IsOpen (slots : List (Slot T V)) (heap : List (Due T)) (p : ℕ) (d : Due T) : Type 0 where
    pub place : p < length heap
    pub slot : d.slot < length slots
    pub indexed : IsIndexed (held_at slots) (put_at (slice_get heap) p (Some d)) (put_at (link_at slots) d.slot p)
    pub ordered : IsOrderedBut cmp (slice_get heap) p

  -- The places are a heap of the timers, of which there are as many; each of these has a number and a turn below this one, and a turn of its own; and the slots
  -- that hold none are listed from this one on.
  pub record IsSound (slots : List (Slot T V)) (heap : List (Due T)) (next_number vacant : ℕ) : Type 0 where
    pub heaped : IsHeap slots heap
    pub counted : length heap ≡ count_by is_some (helds slots)
    pub given_out : IsGivenOut (helds slots) next_number
    pub vacancies : ℕ
    pub total : length heap + vacancies ≡ length slots
    pub listed : IsVacantList (helds slots) (links slots) vacancies vacant

  -- The slot that is named holds the timer that comes out first.
  pub record IsFirst (q : Slotted T V) (d : Due T) : Type 0 where
    pub armed : Armed T V
    pub held : slice_index_or q.slots d.slot None ≡ Some armed
    pub at : armed.at ≡ d.at
    pub earliest : IsEarliest cmp q (record { slot = d.slot; number = armed.number }) armed
