-- A stretch whose value was set.
use Rattle.std.specs.Prelude.{◌≡◌, List, Some, cond}
use Rattle.std.specs.declared.cmp.Ordering.{Ordering}
use Rattle.fc_base.specs.OneKey.{put}
use Rattle.fc_intervals.specs.Stretches.{lies, stretch_at, value_at_point}
use Rattle.fc_intervals.specs.declared.stretch.Stretch.{Stretch}

-- The stretch that covers the point had one value and has another, as each point of it does; every other point has the one that it had.
pub record IsValueSet {K V : Type 0} (cmp : K → K → Ordering) (at : K) (had given : V) (old new : List (K × Stretch K V)) : Type 0 where
  pub stretch : K × Stretch K V
  pub covers : stretch_at cmp old at ≡ Some stretch
  pub value : stretch.1.value ≡ had
  pub is : new ≡ put cmp old stretch.0 (record { end = stretch.1.end; value = given })
  pub points : (p : K) → value_at_point cmp new p ≡ cond (lies cmp stretch.0 stretch.1.end p) (Some given) (value_at_point cmp old p)
