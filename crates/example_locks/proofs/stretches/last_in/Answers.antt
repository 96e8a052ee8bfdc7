use Rattle.std.proofs.Common.{arith}
use Rattle.fallible_collections.specs.Words.{entries}
use Rattle.example_locks.proofs.Lasts.{last_some, last_short, last_empty}
use Rattle.example_locks.proofs.stretches.last_in.Goals as goal

pub returns-in_err-start-clause-none : goal.returns-in_err-start-clause-none
returns-in_err-start-clause-none c =
    rw c.from_residual.ensures (last_empty (entries c.args.held.now) c.requires c.args.from c.args.below c.in_err-start.ensures.pair)

pub returns-then-from-rest-clause-some : goal.returns-then-from-rest-clause-some
returns-then-from-rest-clause-some c = last_some (entries c.args.held.now) c.requires c.args.from c.args.below
    (c.in_ok-start.start.now, c.in_ok-start.rest.now) c.in_ok-start.ensures.pair c.if-from-rest.true

pub returns-else-from-rest-clause-none : goal.returns-else-from-rest-clause-none
returns-else-from-rest-clause-none c = last_short (entries c.args.held.now) c.requires c.args.from c.args.below
    (c.in_ok-start.start.now, c.in_ok-start.rest.now) c.in_ok-start.ensures.pair (omega (arith, c.if-from-rest.false))
