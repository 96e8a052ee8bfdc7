-- Copies of values.
use Rattle.std.specs.Prelude.{◌≡◌, ◌<◌, ◌⊎◌, List, length, Any, Option, Some, None, ⊤}
use Rattle.std.specs.declared.ops.Bound.{Bound}
use Rattle.std.specs.declared.ops.Bound.TheVariants.{Included, Excluded, Unbounded}
use Rattle.fc_base.specs.declared.try_reserve_error.TryReserveError.{TryReserveError}
use Rattle.fc_base.specs.declared.try_reserve_error.TryReserveError.TheVariants.{AllocError}

-- What is the same, by this relation, is one and the same value.
abbrev pub IsExact : {A : Type 0} → (A → A → Type 0) → Type 0
IsExact {A} same = (x y : A) → same x y → y ≡ x

-- Both options have a value, and same holds of the two; or neither has one.
abbrev pub SameContents : {A : Type 0} → (A → A → Type 0) → Option A → Option A → Type 0
SameContents same None None = ⊤
SameContents same None (Some y) = ⊥
SameContents same (Some x) None = ⊥
SameContents same (Some x) (Some y) = same x y

-- By which error a copy of a collection of these items may be refused, given by which one a copy of each may be: `AllocError`, where its own
-- memory was refused, or an error of one of the items' own. Nothing is refused where there is no item.
abbrev pub MayRefuseCopies : {A : Type 0} → (A → TryReserveError → Type 0) → List A → TryReserveError → Type 0
MayRefuseCopies may_refuse xs e = (0 < length xs) × ((e ≡ AllocError) ⊎ Any (λ x. may_refuse x e) xs)

-- By which error a copy of a pair may be refused: one of the key's own, or of the value's.
abbrev pub MayRefusePair : {K V : Type 0} → (K → TryReserveError → Type 0) → (V → TryReserveError → Type 0) → K × V → TryReserveError → Type 0
MayRefusePair refuses_key refuses_value p e = refuses_key p.0 e ⊎ refuses_value p.1 e

-- Both bounds are of one kind, and same holds of their keys.
abbrev pub SameBound : {A : Type 0} → (A → A → Type 0) → Bound A → Bound A → Type 0
SameBound same (Included a) (Included b) = same a b
SameBound same (Excluded a) (Excluded b) = same a b
SameBound same Unbounded Unbounded = ⊤
SameBound same _ _ = ⊥

-- By which error a copy of a bound may be refused: one of its key's own.
abbrev pub MayRefuseBound : {A : Type 0} → (A → TryReserveError → Type 0) → Bound A → TryReserveError → Type 0
MayRefuseBound may_refuse (Included a) e = may_refuse a e
MayRefuseBound may_refuse (Excluded a) e = may_refuse a e
MayRefuseBound may_refuse Unbounded e = ⊥
