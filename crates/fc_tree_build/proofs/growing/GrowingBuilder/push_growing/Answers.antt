use Rattle.std.proofs.Common.{◌≡◌, ◌+◌, ◌*◌, ◌<◌, length, subst, inr, arith}
use Rattle.fc_base.specs.Sizes.{capacity}
use Rattle.fc_tree_build.proofs.GrownFacts.{grown_leaf, all_pairs, put_grown, put_pairs, grafted_grown, grafted_pairs, full_pairs, as_full, if_err}
use Rattle.fc_tree_build.specs.Loads.{load_requests}
use Rattle.fc_tree_build.specs.Spares.{needed}
use Rattle.fc_tree_build.proofs.LoadFacts.{load_first, load_grows, load_grafted}
use Rattle.fc_tree_build.proofs.growing.GrowingBuilder.push_growing.Given as given
use Rattle.fc_tree_build.proofs.growing.GrowingBuilder.push_growing.Goals as goal
use Rattle.fc_tree_build.proofs.growing.GrowingBuilder.push_growing.Goals.{After-graft_full, After-first_leaf}

pub invariant_of-self-then-len-lt-CAPACITY : goal.invariant_of-self-then-len-lt-CAPACITY
invariant_of-self-then-len-lt-CAPACITY g c =
    let less = subst (λ n. n < capacity) c.len.ensures.value c.if-len-lt-CAPACITY.true in
    put_grown c.self.inside.spine c.self.inside.before c.in-Some.last c.put_pair.new.node c.args.pair (grown_leaf _ _ _ _ c.in-Some.is c.self.invariant) less
    c.put_pair.ensures.pairs c.put_pair.ensures.leaf

pub returns-then-len-lt-CAPACITY-clause-pairs : goal.returns-then-len-lt-CAPACITY-clause-pairs
returns-then-len-lt-CAPACITY-clause-pairs g c =
    put_pairs c.self.inside.spine c.in-Some.last c.put_pair.new.node c.args.pair c.args.self.now.pairs c.put_pair.ensures.pairs
    (all_pairs _ _ c.self.inside.spine _ c.in-Some.is c.self.view_is)

pub returns-then-self-clause-full : goal.returns-then-self-clause-full
returns-then-self-clause-full g c =
    inr (full_pairs c.self.inside.spine c.in-Some.last _ (all_pairs _ _ c.self.inside.spine _ c.in-Some.is c.self.view_is)
    (as_full c.len.ensures.value c.if-len-lt-CAPACITY.false))

pub returns-in_err-graft_full-clause-full : goal.returns-in_err-graft_full-clause-full
returns-in_err-graft_full-clause-full g c =
    if_err c.from_residual.result
    (inr (full_pairs c.self.inside.spine c.in-Some.last _ (all_pairs _ _ c.self.inside.spine _ c.in-Some.is c.self.view_is)
    (as_full c.len.ensures.value c.if-len-lt-CAPACITY.false)))

pub invariant_of-self-2 : goal.invariant_of-self-2
invariant_of-self-2 g c =
    let h = c.in_ok-graft_full.ensures in
    grafted_grown c.graft_full.new.spine c.self.inside.spine c.self.inside.before c.in-Some.last c.graft_full.new.last c.args.pair
    (grown_leaf _ _ _ _ c.in-Some.is c.self.invariant) (as_full c.len.ensures.value c.if-len-lt-CAPACITY.false) c.if-self.false h.empty h.pairs h.levels
    h.worth h.short

pub returns-clause-pairs : goal.returns-clause-pairs
returns-clause-pairs g c =
    let h = c.in_ok-graft_full.ensures in
    let grown = grown_leaf _ _ _ _ c.in-Some.is c.self.invariant in
    grafted_pairs c.graft_full.new.spine c.self.inside.spine c.in-Some.last c.graft_full.new.last c.args.pair c.args.self.now.pairs grown.0.1 h.empty h.pairs
    (all_pairs _ _ c.self.inside.spine _ c.in-Some.is c.self.view_is)

-- the first pair takes a leaf
first : (g : given.Over) (c : After-first_leaf g) → load_requests (length c.args.self.now.pairs) + 1 ≡ load_requests (length c.args.self.now.pairs + 1)
first g c = load_first c.self.inside.last c.self.inside.spine c.self.inside.before c.args.self.now c.in_default.is c.self.invariant c.self.view_is

pub returns-in-Ok-clause-at_most : goal.returns-in-Ok-clause-at_most
returns-in-Ok-clause-at_most g c =
    let one = first g (goal.at.returns-in-Ok-clause-at_most g c).After-first_leaf in
    omega (arith, one, c.in-Ok.ensures.requests)

pub returns-in-Err-clause-at_most : goal.returns-in-Err-clause-at_most
returns-in-Err-clause-at_most g c =
    let one = first g (goal.at.returns-in-Err-clause-at_most g c).After-first_leaf in
    omega (arith, one, c.in-Err.ensures.requests)

pub returns-then-len-lt-CAPACITY-clause-at_most : goal.returns-then-len-lt-CAPACITY-clause-at_most
returns-then-len-lt-CAPACITY-clause-at_most g c = let more = load_grows (length c.args.self.now.pairs) in omega (arith, more)

pub returns-then-self-clause-at_most : goal.returns-then-self-clause-at_most
returns-then-self-clause-at_most g c = let more = load_grows (length c.args.self.now.pairs) in omega (arith, more)

-- after a full leaf
next : (g : given.Over) (c : After-graft_full g)
    → load_requests (length c.args.self.now.pairs) + (1 + 3 * needed c.self.inside.spine) ≡ load_requests (length c.args.self.now.pairs + 1)
next g c =
    load_grafted c.self.inside.spine c.in-Some.last c.self.inside.before c.args.self.now.pairs (grown_leaf _ _ _ _ c.in-Some.is c.self.invariant)
    (as_full c.len.ensures.value c.if-len-lt-CAPACITY.false) (all_pairs _ _ c.self.inside.spine _ c.in-Some.is c.self.view_is)

pub returns-in_err-graft_full-clause-at_most : goal.returns-in_err-graft_full-clause-at_most
returns-in_err-graft_full-clause-at_most g c =
    let more = next g (goal.at.returns-in_err-graft_full-clause-at_most g c).After-graft_full in
    omega (arith, more, c.in_err-graft_full.ensures.at_most)

pub returns-clause-at_most : goal.returns-clause-at_most
returns-clause-at_most g c =
    let more = next g (goal.at.returns-clause-at_most g c).After-graft_full in
    omega (arith, more, c.in_ok-graft_full.ensures.at_most)
