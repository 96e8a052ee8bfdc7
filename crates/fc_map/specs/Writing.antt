-- Writing walks over a list of pairs.
use Rattle.std.specs.Prelude.{ℕ, ◌+◌, ◌-◌, nat_lt, Bool, if◌then◌else◌, List, [], ◌∷◌, length, filter}
use Rattle.std.specs.declared.cmp.Ordering.{Ordering}
use Rattle.std.specs.declared.ops.Bound.{Bound}
use Rattle.fc_base.specs.Ranges.{starts, within}
pub use Rattle.fc_tree_search.specs.Written.{set_value}

-- A list as it stands, and the places not yet lent: those from front on that are below back.
pub record Stretch (K V : Type 0) : Type 0 where
  pub list : List (K × V)
  pub front : ℕ
  pub back : ℕ

module _ {K V : Type 0} where
  -- All places of a list.
  abbrev pub whole : List (K × V) → Stretch K V
  whole s = record { list = s; front = 0; back = length s }

  -- The places of the pairs whose keys lie within both bounds.
  abbrev pub starting : {Q : Type 0} → (K → Q → Ordering) → Bound Q → Bound Q → List (K × V) → Stretch K V
  starting cmp lo hi s =
      let front = length s - length (filter (λ e. starts cmp lo e.0) s) in
      record { list = s; front = front; back = front + length (within cmp lo hi s) }

  -- A value written at the first place, which is then lent.
  abbrev pub wrote_first : Stretch K V → V → Stretch K V
  wrote_first t v = record { list = set_value t.list t.front v; front = t.front + 1; back = t.back }

  -- A value written at the last place, which is then lent.
  abbrev pub wrote_last : Stretch K V → V → Stretch K V
  wrote_last t v = record { list = set_value t.list (t.back - 1) v; front = t.front; back = t.back - 1 }

  -- A value written at the front, where the flag is true, or at the back; where no place is left, nothing is written.
  unfoldable pub wrote : Stretch K V → Bool × V → Stretch K V
  wrote t w = if nat_lt t.front t.back then (if w.0 then wrote_first t w.1 else wrote_last t w.1) else t

  -- All the writes in turn.
  abbrev pub wrote_all : Stretch K V → List (Bool × V) → Stretch K V
  wrote_all t [] = t
  wrote_all t (w ∷ ws) = wrote_all (wrote t w) ws
