-- What a command writes between two bounds of a list of pairs.
use Rattle.std.specs.Prelude.{Bool, true, false, List, map}
use Rattle.std.specs.declared.cmp.Ordering.{Ordering}
use Rattle.std.specs.declared.ops.Bound.{Bound}
use Rattle.fc_map.specs.Writing.{starting, wrote_all}
use Rattle.fc_lines.specs.declared.command.End.{End}
use Rattle.fc_lines.specs.declared.command.End.TheVariants.{Front, Back}

-- Whether it is the front.
abbrev pub is_front : End → Bool
is_front Front = true
is_front Back = false

-- A write, as a walk takes it: whether it is at the front, and the value.
abbrev pub flagged : {V : Type 0} → End × V → Bool × V
flagged w = (is_front w.0, w.1)

module _ {K V : Type 0} (cmp : K → K → Ordering) where
  -- The list once each value is written at its end of what is left between the bounds.
  abbrev pub rewritten : Bound K → Bound K → List (K × V) → List (End × V) → List (K × V)
  rewritten lo hi s writes = (wrote_all (starting cmp lo hi s) (map flagged writes)).list
