use Rattle.fc_set.specs.Items.{items}
use Rattle.fc_set.specs.Operations.{common}
use Rattle.fc_set.proofs.StepFacts.{sought_after, sought_found, common_not_found, common_found}
use Rattle.fc_set.proofs.set.intersection.next_found.Goals as goal

pub returns-then-contains-clause-gives : goal.returns-then-contains-clause-gives
returns-then-contains-clause-gives g c =
    sought_found g.T.Ord.cmp g.met.T.Ord.total (λ s. common g.T.Ord.cmp s (items c.args.other.now)) c.ours.ours c.next.new.self c.args.ours.now
    c.in-Some.item.now c.in-Some.ensures.steps c.ours.invariant
    (common_found g.T.Ord.cmp c.next.new.self (items c.args.other.now) c.in-Some.item.now c.contains.result c.contains.ensures.there c.if-contains.true)

pub ours-preserved : goal.ours-preserved
ours-preserved g c =
    sought_after g.T.Ord.cmp g.met.T.Ord.total (λ s. common g.T.Ord.cmp s (items c.args.other.now)) c.ours.ours c.next.new.self c.args.ours.now
    c.in-Some.item.now c.in-Some.ensures.steps c.ours.invariant
    (common_not_found g.T.Ord.cmp c.next.new.self (items c.args.other.now) c.in-Some.item.now c.contains.result c.contains.ensures.there c.if-contains.false)
