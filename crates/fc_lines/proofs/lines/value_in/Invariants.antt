use Rattle.std.proofs.Common.{◌≡◌, take, ◌<◌, ◌^◌}
use Rattle.std.specs.Str.Parse.{digits_value}
use Rattle.fc_lines.proofs.lines.value_in.Given as goal

abbrev pub invariant-loop-digit : goal.invariant-loop-digit
invariant-loop-digit l = (l.n < 2 ^ 64) × (l.n ≡ digits_value 10 (take l.digit-index l.digits))
