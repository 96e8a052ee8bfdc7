use Rattle.std.proofs.Common.{◌≡◌, ◌+◌, ◌≤◌, length}
use Rattle.std.specs.Prelude.{sum}
use Rattle.example_media.proofs.parser.close.Given as goal

-- What is left in all stays the same.
abbrev pub invariant-loop-left : goal.invariant-loop-left
invariant-loop-left l = record {
  same : l.left + sum l.outer.items ≡ l.initial.left + sum l.initial.outer.items;
  depth : length l.outer.items ≤ length l.initial.outer.items;
  room : l.outer.room ≡ l.initial.outer.room;
}

abbrev pub decreases-loop-left : goal.decreases-loop-left
decreases-loop-left l = length l.outer.items
