-- What a walk lends, and the refusal of a set that is made of copies of it.
use Rattle.std.specs.Prelude.{◌≡◌, ◌-◌, ◌^◌, ◌<◌, ◌≤◌, ◌⊎◌, List, Option, Any, length}
use Rattle.std.specs.Borrow.{Bor}
use Rattle.std.specs.Iterator.{AlwaysYields}
use Rattle.fc_base.specs.declared.try_reserve_error.TryReserveError.{TryReserveError}
use Rattle.fc_base.specs.declared.try_reserve_error.TryReserveError.TheVariants.{CapacityOverflow, AllocError}

-- However often the walk is called, it lends these items in turn, and then comes to its end.
abbrev pub Lends : {S T : Type 0} → (S → Option (Bor T) → S → Type 0) → S → List T → Type 0
Lends steps walk all = AlwaysYields steps (λ x. x.now) walk all

-- How a set of copies of these items may be refused, given by which error a copy of each may be: only where there are some; by
-- `CapacityOverflow` where they are more than a set can have; else by `AllocError`, or by an error of one of the items' own.
abbrev pub MayCopyRefuse : {T : Type 0} → (T → TryReserveError → Type 0) → List T → TryReserveError → Type 0
MayCopyRefuse may_refuse s e = (0 < length s) × (2 ^ 64 - 1 < length s → e ≡ CapacityOverflow)
    × (length s ≤ 2 ^ 64 - 1 → (e ≡ AllocError) ⊎ Any (λ x. may_refuse x e) s)
