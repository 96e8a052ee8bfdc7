use Rattle.std.proofs.Common.{length, refl, arith}
use Rattle.fc_tree_build.proofs.LoadFacts.{load_grows}
use Rattle.fc_tree_build.proofs.growing.GrowingBuilder.push.Goals as goal

pub returns-in-None-clause-pairs : goal.returns-in-None-clause-pairs
returns-in-None-clause-pairs g c = c.in-None.ensures.put refl

pub returns-in-Some-clause-pairs : goal.returns-in-Some-clause-pairs
returns-in-Some-clause-pairs g c = let b = c.in-Some.ensures.back in rw b.1 at (rw b.0 at c.push_growing.ensures.pairs)

pub returns-in-Some-clause-room : goal.returns-in-Some-clause-room
returns-in-Some-clause-room g c = let b = c.in-Some.ensures.back in rw b.1 at c.push_growing.ensures.room

pub returns-in-Some-clause-fresh : goal.returns-in-Some-clause-fresh
returns-in-Some-clause-fresh g c = let b = c.in-Some.ensures.back in rw b.1 at c.push_growing.ensures.fresh

pub returns-in-Some-clause-unchanged : goal.returns-in-Some-clause-unchanged
returns-in-Some-clause-unchanged g c = let b = c.in-Some.ensures.back in rw b.1 at c.push_growing.ensures.unchanged

pub returns-in-Some-clause-back : goal.returns-in-Some-clause-back
returns-in-Some-clause-back g c = let b = c.in-Some.ensures.back in rw b.0 at c.push_growing.ensures.back

pub returns-in-Some-clause-full : goal.returns-in-Some-clause-full
returns-in-Some-clause-full g c = let b = c.in-Some.ensures.back in rw b.1 at c.push_growing.ensures.full

pub returns-in-Some-clause-no_room : goal.returns-in-Some-clause-no_room
returns-in-Some-clause-no_room g c = let b = c.in-Some.ensures.back in rw b.1 at c.push_growing.ensures.no_room

pub returns-in-None-clause-at_most : goal.returns-in-None-clause-at_most
returns-in-None-clause-at_most g c = let more = load_grows (length c.args.self.now.pairs) in omega (arith, more)

pub returns-in-Some-clause-at_most : goal.returns-in-Some-clause-at_most
returns-in-Some-clause-at_most g c = let b = c.in-Some.ensures.back in rw b.1 at c.push_growing.ensures.at_most

pub returns-in-Some-clause-none : goal.returns-in-Some-clause-none
returns-in-Some-clause-none g c some = absurd (cc (c.in-Some.ensures.taken some))
