use Rattle.std.proofs.Common.{arith, max}
use Rattle.fallible_collections.specs.Words.{entries}
use Rattle.example_locks.proofs.Lasts.{holds_from, own_from, own_all}
use Rattle.example_locks.proofs.stretches.other_in.Goals as goal

pub walk-preserved : goal.walk-preserved
walk-preserved c =
    let l = c.in-Some.ensures.some in (
      omega (arith, l.before, c.walk.invariant.0),
      own_from (entries c.args.held.now) c.requires c.args.start c.args.end c.args.owner c.walk.below
          c.walk.invariant.1 (c.in-Some.at, (c.in-Some._end, c.in-Some.holder)) l c.if-holder-owner.false,
    )

pub returns-then-holder-owner-clause-some : goal.returns-then-holder-owner-clause-some
returns-then-holder-owner-clause-some c =
    let l = c.in-Some.ensures.some in
    let w = c.requires.whole c.in-Some.at (c.in-Some._end, c.in-Some.holder) l.there in
    let byte = max c.args.start c.in-Some.at in (
      c.if-holder-owner.true,
      byte,
      omega arith,
      omega (arith, l.before, c.walk.invariant.0, c.if-end-start.false),
      holds_from (entries c.args.held.now) c.requires c.args.start c.walk.below (c.in-Some.at, (c.in-Some._end, c.in-Some.holder)) l byte (omega arith)
          (omega (arith, l.reaches)),
    )

pub returns-clause-none : goal.returns-clause-none
returns-clause-none c = own_all (entries c.args.held.now) c.requires c.args.start c.args.end c.args.owner c.walk.below c.walk.invariant.1
    c.in_default.ensures.none
