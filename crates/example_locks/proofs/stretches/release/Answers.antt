use Rattle.std.proofs.Common.{arith}
use Rattle.fallible_collections.specs.Words.{entries}
use Rattle.example_locks.proofs.Releasing.{released_more, released_all}
use Rattle.example_locks.proofs.stretches.release.Goals as goal

pub walk-preserved : goal.walk-preserved
walk-preserved c =
    let l = c.in-Some.ensures.some in
    let i = c.walk.invariant in (
      omega (arith, l.before, i.0),
      released_more (entries c.args.held.now) (entries c.walk.held) (entries c.give_up.new.held) c.args.start c.args.end
          c.args.owner c.walk.below c.in-Some.last c.requires.stops c.requires.order i.0 i.1 l c.give_up.ensures.released,
      omega (arith, i.2, c.give_up.ensures.fewer),
    )

pub returns-clause-released : goal.returns-clause-released
returns-clause-released c = released_all (entries c.args.held.now) (entries c.walk.held) c.args.start c.args.end c.args.owner c.walk.below
    c.walk.invariant.1 c.in_default.ensures.none
