use Rattle.std.proofs.Common.{arith}
use Rattle.fc_map.specs.Entries.{entries}
use Rattle.fc_map.proofs.SplitFacts.{parts_ascending}
use Rattle.fc_map.proofs.RequestFacts.{few_cut}
use Rattle.fc_map.proofs.map.BTreeMap.split_at.Goals as goal

pub invariant_of-result : goal.invariant_of-result
invariant_of-result g c =
    let ok = c.in_ok-rest.ensures in
    let ascend = parts_ascending (entries c.try_split_counted.new.root) (entries c.in_ok-rest.rest) (entries c.self.inside.root) ok.parts g.K.Ord.cmp
    c.self.invariant.0 in
    (ascend.1, ok.sound.1, ok.moved)

pub invariant_of-self-2 : goal.invariant_of-self-2
invariant_of-self-2 g c =
    let ok = c.in_ok-rest.ensures in
    let ascend = parts_ascending (entries c.try_split_counted.new.root) (entries c.in_ok-rest.rest) (entries c.self.inside.root) ok.parts g.K.Ord.cmp
    c.self.invariant.0 in
    (ascend.0, ok.sound.0, omega (arith, ok.kept))

pub returns-clause-ascending : goal.returns-clause-ascending
returns-clause-ascending g c = ((invariant_of-self-2 g c).0, (invariant_of-result g c).0)

pub returns-clause-few : goal.returns-clause-few
returns-clause-few g c =
    rw (← c.self.view_is) (few_cut c.self.inside.root c.self.invariant.1 c.args.asked.now c.try_split_counted.new.asked c.try_split_counted.ensures.at_most)

pub returns-in_err-rest-clause-few : goal.returns-in_err-rest-clause-few
returns-in_err-rest-clause-few g c =
    rw (← c.self.view_is) (few_cut c.self.inside.root c.self.invariant.1 c.args.asked.now c.try_split_counted.new.asked c.try_split_counted.ensures.at_most)

pub returns-clause-blocks : goal.returns-clause-blocks
returns-clause-blocks g c = rw (← c.self.view_is) (omega (arith, c.in_ok-rest.ensures.blocks, c.in_ok-rest.ensures.requests))
