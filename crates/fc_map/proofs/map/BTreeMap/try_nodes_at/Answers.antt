use Rattle.std.proofs.Common.{◌+◌, ◌≤◌, arith}
use Rattle.fc_map.specs.Requests.{requests_at}
use Rattle.fc_map.proofs.RequestFacts.{few_requests, unfull_asks_none}
use Rattle.fc_map.proofs.map.BTreeMap.try_nodes_at.Goals as goal

pub returns-in-Some-clause-few : goal.returns-in-Some-clause-few
returns-in-Some-clause-few g c =
    few_requests g.K.Ord.cmp c.requires.0 c.args.self.now c.args.path.now (rw (← c.self.view_is) c.self.invariant.1) c.requires.1 c.args.asked.now
    c.try_nodes_at.new.asked (rw (← c.self.view_is) (rw c.in-Some.is c.try_nodes_at.ensures.at_most))

pub returns-in-Some-clause-room : goal.returns-in-Some-clause-room
returns-in-Some-clause-room g c = λ unfull.
    let none = unfull_asks_none g.K.Ord.cmp c.requires.0 c.args.self.now c.args.path.now (rw (← c.self.view_is) c.self.invariant.1) c.requires.1 unfull in
    let most : c.try_nodes_at.new.asked.requests ≤ c.args.asked.now.requests + requests_at c.args.self.now c.args.path.now =
    rw (← c.self.view_is) (rw c.in-Some.is c.try_nodes_at.ensures.at_most) in
    omega (arith, none, most)
