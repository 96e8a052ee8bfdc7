use Rattle.std.proofs.Common.{◌≡◌, ◌+◌, ◌*◌}
use Rattle.fc_budget.specs.Accounts.{cap_of, used_of}
use Rattle.callers_of_map.proofs.requests.take_blocks.Given as goal

-- so many blocks are out beside what was, and as many may be
abbrev pub invariant-loop-block : goal.invariant-loop-block
invariant-loop-block l = record {
  used : used_of l.account ≡ used_of l.fn.account + l._block * l.fn.bytes;
  cap : cap_of l.account ≡ cap_of l.fn.account;
}
