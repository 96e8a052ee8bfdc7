use Rattle.std.proofs.Common.{◌≡◌, ◌∙◌, sym, Some}
use Rattle.fc_map.proofs.CountFacts.{looked_up}
use Rattle.fc_map.proofs.map.BTreeMap.pair_from.Goals as goal

pub returns-in-Some-clause-bounded : goal.returns-in-Some-clause-bounded
returns-in-Some-clause-bounded g c =
    let is : c.args.self.now ≡ Some c.in-Some.root = sym c.self.view_is ∙ c.in-Some.is in
    looked_up g.Q.Query.order (g.Q.Query.sought c.args.key) c.args.self.now c.in-Some.root _ _ is (rw c.self.view_is at c.self.invariant.1)
    c.first_from.ensures.comparisons c.first_from.ensures.moves
