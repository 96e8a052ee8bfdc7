-- A stretch that was taken out whole.
use Rattle.std.specs.Prelude.{◌≡◌, List, Some, None, cond}
use Rattle.std.specs.declared.cmp.Ordering.{Ordering}
use Rattle.std.specs.declared.ops.Range.{Range}
use Rattle.fc_base.specs.OneKey.{cut}
use Rattle.fc_intervals.specs.declared.stretch.Stretch.{Stretch}
use Rattle.fc_intervals.specs.Stretches.{lies, stretch_at, value_at_point}

-- The stretch that a range and its value are.
abbrev pub stretch_of : {K V : Type 0} → Range K × V → K × Stretch K V
stretch_of r = (r.0.start, record { end = r.0.end; value = r.1 })

-- The stretch covered the point, and is not there any more: no point of it has a value, and each other has the one that it had.
pub record IsTaken {K V : Type 0} (cmp : K → K → Ordering) (at : K) (e : K × Stretch K V) (old new : List (K × Stretch K V)) : Type 0 where
  pub covered : stretch_at cmp old at ≡ Some e
  pub is : new ≡ cut cmp old e.0
  pub points : (p : K) → value_at_point cmp new p ≡ cond (lies cmp e.0 e.1.end p) None (value_at_point cmp old p)
