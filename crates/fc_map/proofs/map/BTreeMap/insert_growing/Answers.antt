use Rattle.std.proofs.Common.{◌≡◌, ◌+◌, ◌≤◌, ◌∙◌, length, ap, arith}
use Rattle.fc_base.specs.Ascending.{IsAscending}
use Rattle.fc_tree_node.specs.Node.{pairs_of}
use Rattle.fc_map.specs.Entries.{entries}
use Rattle.fc_map.specs.Requests.{requests_at}
use Rattle.fc_base.proofs.Laws.{ascending_put}
use Rattle.fc_map.proofs.InsertFacts.{put_in}
use Rattle.fc_map.proofs.RequestFacts.{few_requests, unfull_asks_none}
use Rattle.fc_map.proofs.map.BTreeMap.insert_growing.Goals as goal

pub try_insert-requires-clause-path : goal.try_insert-requires-clause-path
try_insert-requires-clause-path g c = let gap = rw c.in-Some.is at (rw (← c.self.view_is) at c.requires.gap) in gap.way

pub try_insert-requires-clause-levels : goal.try_insert-requires-clause-levels
try_insert-requires-clause-levels g c = let gap = rw c.in-Some.is at (rw (← c.self.view_is) at c.requires.gap) in gap.levels

pub invariant_of-self-2 : goal.invariant_of-self-2
invariant_of-self-2 g c =
    let ok = c.in_ok-try_insert.ensures in
    let gap = rw c.in-Some.is at (rw (← c.self.view_is) at c.requires.gap) in
    let put = put_in c.in-Some.root c.args.path.now (rw c.in-Some.is at c.self.invariant.1) g.K.Ord.cmp c.args.key c.args.value _ gap ok.pairs in
    let ascending : IsAscending g.K.Ord.cmp (pairs_of c.in-Some.root) = rw c.in-Some.is at c.self.invariant.0 in
    let len : c.self.inside.len ≡ length (pairs_of c.in-Some.root) = c.self.invariant.2 ∙ ap (λ r. length (entries r)) c.in-Some.is in
    (rw put (ascending_put g.K.Ord.cmp _ c.args.key c.args.value g.met.K.Ord.total ascending), ok.sound, omega (arith, ok.length, len))

pub returns-clause-put : goal.returns-clause-put
returns-clause-put g c =
    let gap = rw c.in-Some.is at (rw (← c.self.view_is) at c.requires.gap) in
    rw (← c.self.view_is) (rw c.in-Some.is (put_in c.in-Some.root c.args.path.now (rw c.in-Some.is at c.self.invariant.1) g.K.Ord.cmp c.args.key c.args.value _
    gap c.in_ok-try_insert.ensures.pairs))

pub returns-clause-ascending : goal.returns-clause-ascending
returns-clause-ascending g c = (invariant_of-self-2 g c).0

pub returns-clause-few : goal.returns-clause-few
returns-clause-few g c =
    few_requests g.K.Ord.cmp c.args.key c.args.self.now c.args.path.now (rw (← c.self.view_is) c.self.invariant.1) c.requires.gap c.args.asked.now
    c.try_insert.new.asked (rw (← c.self.view_is) (rw c.in-Some.is c.try_insert.ensures.at_most))

pub returns-in_err-try_insert-clause-few : goal.returns-in_err-try_insert-clause-few
returns-in_err-try_insert-clause-few g c =
    few_requests g.K.Ord.cmp c.args.key c.args.self.now c.args.path.now (rw (← c.self.view_is) c.self.invariant.1) c.requires.gap c.args.asked.now
    c.try_insert.new.asked (rw (← c.self.view_is) (rw c.in-Some.is c.try_insert.ensures.at_most))

pub returns-clause-room : goal.returns-clause-room
returns-clause-room g c = λ unfull.
    let none = unfull_asks_none g.K.Ord.cmp c.args.key c.args.self.now c.args.path.now (rw (← c.self.view_is) c.self.invariant.1) c.requires.gap unfull in
    let most : c.try_insert.new.asked.requests ≤ c.args.asked.now.requests + requests_at c.args.self.now c.args.path.now =
    rw (← c.self.view_is) (rw c.in-Some.is c.try_insert.ensures.at_most) in
    omega (arith, none, most)

pub returns-in_err-try_insert-clause-room : goal.returns-in_err-try_insert-clause-room
returns-in_err-try_insert-clause-room g c = λ unfull.
    let none = unfull_asks_none g.K.Ord.cmp c.args.key c.args.self.now c.args.path.now (rw (← c.self.view_is) c.self.invariant.1) c.requires.gap unfull in
    let most : c.try_insert.new.asked.requests ≤ c.args.asked.now.requests + requests_at c.args.self.now c.args.path.now =
    rw (← c.self.view_is) (rw c.in-Some.is c.try_insert.ensures.at_most) in
    omega (arith, none, most)

pub returns-clause-blocks : goal.returns-clause-blocks
returns-clause-blocks g c = rw (← c.self.view_is) (rw c.in-Some.is c.in_ok-try_insert.ensures.blocks)
