-- What Rust's own ranges of keys hold.
use Rattle.std.specs.Prelude.{if◌then◌else◌}
use Rattle.std.specs.Range.{range_inclusive_end, range_inclusive_exhausted}
use Rattle.std.specs.declared.ops.Bound.{Bound}
use Rattle.std.specs.declared.ops.Bound.TheVariants.{Included, Excluded}
use Rattle.std.specs.declared.ops.RangeInclusive.{RangeInclusive}

-- The end of `a..=b`: b lies in it, until a walk of its own has gone over b.
abbrev pub last_of : {K : Type 0} → RangeInclusive K → Bound K
last_of r = if range_inclusive_exhausted r then Excluded (range_inclusive_end r) else Included (range_inclusive_end r)
