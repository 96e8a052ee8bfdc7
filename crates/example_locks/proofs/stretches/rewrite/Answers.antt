use Rattle.std.proofs.Common.{arith}
use Rattle.fallible_collections.specs.Words.{entries}
use Rattle.example_locks.proofs.Rewriting.{rewritten_none, rewritten}
use Rattle.example_locks.proofs.stretches.rewrite.Goals as goal

pub returns-then-kept-end-clause-rewritten : goal.returns-then-kept-end-clause-rewritten
returns-then-kept-end-clause-rewritten c = rewritten_none (entries c.args.held.now) (entries c.release.new.held) c.args.start c.args.kept c.args.end
    c.args.owner c.requires.order.0 c.release.ensures.released c.requires.order.1 c.if-kept-end.true

pub returns-clause-rewritten : goal.returns-clause-rewritten
returns-clause-rewritten c = rw c.insert_reserved.ensures.put (rewritten (entries c.args.held.now) (entries c.release-2.new.held) c.args.start c.args.kept
    c.args.end c.args.owner c.requires.order.0 c.release-2.ensures.released (omega (arith, c.if-kept-end.false)) c.requires.free)
