use Rattle.std.proofs.Common.{◌≡◌, [], replicate}
use Rattle.example_sessions.proofs.sessions.Sessions.try_new.Given as goal

abbrev pub invariant-loop-budget : goal.invariant-loop-budget
invariant-loop-budget l = l.users.items ≡ replicate l.budget-index []
