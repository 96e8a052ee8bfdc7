-- Equality, order and hash of pairs: by the key, and then by the value.
use Rattle.std.specs.Prelude.{Bool, ◌&&◌, ◌++◌, Option}
use Rattle.std.specs.declared.cmp.Ordering.{Ordering}
use Rattle.std.specs.Ordering.{ordering_then, partial_ordering_then}
use Rattle.std.specs.Hash.{HashWrites}

module _ {K V : Type 0} where
  -- Whether the keys and the values are equal.
  abbrev pub pair_eq : (K → K → Bool) → (V → V → Bool) → K × V → K × V → Bool
  pair_eq E F p q = E p.0 q.0 && F p.1 q.1

  -- The order of the keys, and where they are equal that of the values.
  abbrev pub pair_cmp : (K → K → Ordering) → (V → V → Ordering) → K × V → K × V → Ordering
  pair_cmp R S p q = ordering_then (R p.0 q.0) (S p.1 q.1)

  -- The same of orders in which some do not compare.
  abbrev pub pair_partial_cmp : (K → K → Option Ordering) → (V → V → Option Ordering) → K × V → K × V → Option Ordering
  pair_partial_cmp C D p q = partial_ordering_then (C p.0 q.0) (D p.1 q.1)

  -- What a hasher is fed: the key, and then the value.
  abbrev pub pair_input : (K → HashWrites) → (V → HashWrites) → K × V → HashWrites
  pair_input F G p = F p.0 ++ G p.1
