use Rattle.std.proofs.Common.{◌≡◌, ◌≤◌, length, map, take}
use Rattle.std.specs.Int.{w32, from_be_bytes}
use Rattle.example_boxes.proofs.tables.numbers_in.Given as goal

-- The numbers so far, and room for all.
abbrev pub invariant-loop-entry : goal.invariant-loop-entry
invariant-loop-entry l = (l.numbers.items ≡ map (from_be_bytes w32) (take l.entry-index l.entries)) × (length l.entries ≤ l.numbers.room)
