use Rattle.std.proofs.Common.{◌≡◌, ◌++◌, ◌≤◌, length, drop, vec_capacity}
use Rattle.fc_command.specs.Walks.{walked}
use Rattle.fc_command.proofs.command.sets.copies.Given as goal

-- what was given so far, and what the rest of the walk gives, is what all of it gives
abbrev pub invariant-loop-end : goal.invariant-loop-end
invariant-loop-end g l = record {
  given : walked l.fn.walk l.ends ≡ l.steps.items ++ walked l.walk (drop l.end-index l.ends);
  room : length l.ends ≤ vec_capacity l.steps;
  count : length l.steps.items ≡ l.end-index;
}
