-- Where ascending keys are cut by a bound of a range.
use Rattle.std.specs.Prelude.{◌≡◌, ℕ, ◌-◌, ◌<◌, ◌≤◌, Bool, true, false, not, ◌&&◌, if◌then◌else◌, List, length, filter, slice_index_or}
use Rattle.std.specs.Ordering.{is_lt, is_le}
use Rattle.std.specs.declared.cmp.Ordering.{Ordering}
use Rattle.std.specs.declared.ops.Bound.{Bound}
use Rattle.std.specs.declared.ops.Bound.TheVariants.{Included, Excluded, Unbounded}
use Rattle.fc_tree_cursor.specs.declared.cuts.Cut.{Cut}
use Rattle.fc_tree_cursor.specs.declared.cuts.Cut.TheVariants.{First, Before, After, Last}

-- After the keys that are before a start.
abbrev pub start_cut : {Q : Type 0} → Bound Q → Cut Q
start_cut (Included q) = Before q
start_cut (Excluded q) = After q
start_cut Unbounded = First

-- After the keys that are not after an end.
abbrev pub stop_cut : {Q : Type 0} → Bound Q → Cut Q
stop_cut (Included q) = After q
stop_cut (Excluded q) = Before q
stop_cut Unbounded = Last

-- Whether what stands so to what is sought is before it, or is equal where the flag says so.
abbrev pub lies_before : Bool → Ordering → Bool
lies_before takes_equal r = if takes_equal then is_le r else is_lt r

module _ {K Q S : Type 0} (order : K → S → Ordering) (sought : Q → S) where
  -- Whether a key lies before a cut.
  abbrev pub leads : Cut Q → K → Bool
  leads First k = false
  leads (Before q) k = is_lt (order k (sought q))
  leads (After q) k = is_le (order k (sought q))
  leads Last k = true

  -- How many pairs lie before a cut.
  abbrev pub before : {V : Type 0} → Cut Q → List (K × V) → ℕ
  before cut s = length (filter (λ e. leads cut e.0) s)

  -- How many pairs lie after the one cut and before the other.
  abbrev pub amid : {V : Type 0} → Cut Q → Cut Q → List (K × V) → ℕ
  amid lo hi s = length (filter (λ e. not (leads lo e.0) && leads hi e.0) s)

-- The test holds from one place as far as another.
abbrev pub HoldsFrom : {X : Type 0} → (X → Bool) → List X → ℕ → ℕ → Type 0
HoldsFrom {X} test s from i = (k : ℕ) (d : X) → from ≤ k → k < i → test (slice_index_or s k d) ≡ true

-- The test does not hold at a place, if there is an item.
abbrev pub FailsAt : {X : Type 0} → (X → Bool) → List X → ℕ → Type 0
FailsAt {X} test s i = (d : X) → i < length s → test (slice_index_or s i d) ≡ false

-- From one place on the test holds as far as another, and there it does not.
pub record IsTurn {X : Type 0} (test : X → Bool) (s : List X) (from i : ℕ) : Type 0 where
  pub later : from ≤ i
  pub within : i ≤ length s
  pub holds : HoldsFrom test s from i
  pub fails : FailsAt test s i

-- The test holds just before a place, and there it does not.
pub record TurnsAt {X : Type 0} (test : X → Bool) (s : List X) (i : ℕ) : Type 0 where
  pub within : i ≤ length s
  pub holds : HoldsFrom test s (i - 1) i
  pub fails : FailsAt test s i
