use Rattle.std.proofs.Common.{◌≡◌, ◌∙◌, sym, Some}
use Rattle.fc_map.specs.Entries.{IsSoundMap}
use Rattle.fc_map.proofs.CountFacts.{looked_up}
use Rattle.fc_map.proofs.PlaceFacts.{found_there, found_none}
use Rattle.fc_map.proofs.map.BTreeMap.locate.Goals as goal

pub returns-in-Some-clause-bounded : goal.returns-in-Some-clause-bounded
returns-in-Some-clause-bounded g c =
    let is : c.args.self.now ≡ Some c.in-Some.root = sym c.self.view_is ∙ c.in-Some.is in
    looked_up g.Q.Query.order (g.Q.Query.sought c.args.key) c.args.self.now c.in-Some.root _ _ is (rw c.self.view_is at c.self.invariant.1)
    c.search.ensures.comparisons c.search.ensures.moves

pub returns-in-Some-clause-present : goal.returns-in-Some-clause-present
returns-in-Some-clause-present g c =
    let is : Some c.in-Some.root ≡ c.args.self.now = sym (sym c.self.view_is ∙ c.in-Some.is) in
    let sound : IsSoundMap c.args.self.now = rw c.self.view_is at c.self.invariant.1 in
    found_there g.Q.Query.order (g.Q.Query.sought c.args.key) c.args.self.now c.search.new.path c.search.result sound (rw (← is) c.search.ensures.found)

pub returns-in-Some-clause-absent : goal.returns-in-Some-clause-absent
returns-in-Some-clause-absent g c =
    let is : Some c.in-Some.root ≡ c.args.self.now = sym (sym c.self.view_is ∙ c.in-Some.is) in
    let sound : IsSoundMap c.args.self.now = rw c.self.view_is at c.self.invariant.1 in
    found_none g.Q.Query.order (g.Q.Query.sought c.args.key) c.args.self.now c.search.new.path c.search.result sound (rw (← is) c.search.ensures.gap)
