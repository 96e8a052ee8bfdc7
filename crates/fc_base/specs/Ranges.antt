-- The part of a list of pairs between two bounds of its keys.
use Rattle.std.specs.Prelude.{Bool, true, ◌&&◌, List, filter}
use Rattle.std.specs.Borrow.{Bor}
use Rattle.std.specs.Ordering.{is_lt, is_le, is_gt, is_ge}
use Rattle.std.specs.declared.cmp.Ordering.{Ordering}
use Rattle.std.specs.declared.ops.Bound.{Bound}
use Rattle.std.specs.declared.ops.Bound.TheVariants.{Included, Excluded, Unbounded}

-- A bound whose key or query is seen in another way.
abbrev pub bound_by : {A B : Type 0} → (A → B) → Bound A → Bound B
bound_by f (Included a) = Included (f a)
bound_by f (Excluded a) = Excluded (f a)
bound_by f Unbounded = Unbounded

-- A bound at what a reference points to.
abbrev pub bound_now : {K : Type 0} → Bound (Bor K) → Bound K
bound_now b = bound_by (λ k. k.now) b

-- The bounds are keys, or queries that keys stand to by an order.
module _ {K Q : Type 0} (cmp : K → Q → Ordering) where
  -- Whether a key is not before the start.
  abbrev pub starts : Bound Q → K → Bool
  starts (Included a) k = is_ge (cmp k a)
  starts (Excluded a) k = is_gt (cmp k a)
  starts Unbounded k = true

  -- Whether a key is not after the end.
  abbrev pub stops : Bound Q → K → Bool
  stops (Included b) k = is_le (cmp k b)
  stops (Excluded b) k = is_lt (cmp k b)
  stops Unbounded k = true

  -- The pairs whose keys lie within both bounds, in order.
  abbrev pub within : {V : Type 0} → Bound Q → Bound Q → List (K × V) → List (K × V)
  within lo hi s = filter (λ e. starts lo e.0 && stops hi e.0) s

module _ {K : Type 0} (cmp : K → K → Ordering) where
  -- Two bounds are no range where the start is above the end, or where both are excluded and equal.
  abbrev pub is_range : Bound K → Bound K → Bool
  is_range (Included a) (Included b) = is_le (cmp a b)
  is_range (Included a) (Excluded b) = is_le (cmp a b)
  is_range (Excluded a) (Included b) = is_le (cmp a b)
  is_range (Excluded a) (Excluded b) = is_lt (cmp a b)
  is_range Unbounded hi = true
  is_range lo Unbounded = true
