-- What an order takes of those that rest on the other side.
use Rattle.std.specs.Prelude.{ℕ, ◌-◌, ◌==◌, ◌||◌, nat_lt, if◌then◌else◌, List, [], ◌∷◌, Option, None, Some}
use Rattle.std.specs.List.{FoldsTo}
use Rattle.example_orders.specs.Orders.{Orders}
use Rattle.example_orders.specs.declared.ladder.Fill.{Fill}

-- So much of an order as is wanted, or all that there is.
abbrev pub fill_from : ℕ → (ℕ × ℕ) × ℕ → Fill
fill_from wanted o = record { key = o.0; quantity = if nat_lt wanted o.1 then wanted else o.1 }

-- The fill by the first of them; none where its rank is above the limit.
abbrev pub best_fill : ℕ → ℕ → Orders → Option Fill
best_fill limit wanted [] = None
best_fill limit wanted (o ∷ os) = if nat_lt limit o.0.0 then None else Some (fill_from wanted o)

-- What rests then.
abbrev pub after_fill : ℕ → ℕ → Orders → Orders
after_fill limit wanted [] = []
after_fill limit wanted (o ∷ os) = if nat_lt limit o.0.0 then o ∷ os else (if nat_lt wanted o.1 then (o.0, o.1 - wanted) ∷ os else os)

-- All fills, in the order in which they are made.
abbrev pub fills_of : ℕ → ℕ → Orders → List Fill
fills_of limit wanted [] = []
fills_of limit wanted (o ∷ os) = if (wanted == 0) || nat_lt limit o.0.0 then [] else fill_from wanted o ∷ fills_of limit (wanted - o.1) os

-- Calls of a closure, one with each of the fills, in turn, took it from one state to another.
abbrev pub AreTold : {F : Type 0} → (F → Fill → Unit {0} → F → Type 0) → F → List Fill → F → Type 0
AreTold step tell fills told = FoldsTo (λ before fill after. step before fill tt after) tell fills told
