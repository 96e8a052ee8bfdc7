use Rattle.fc_set.specs.Items.{items}
use Rattle.fc_set.specs.Operations.{difference}
use Rattle.fc_set.proofs.StepFacts.{sought_after, sought_found, difference_found, difference_not_found}
use Rattle.fc_set.proofs.set.difference.next_absent.Goals as goal

pub returns-then-not-contains-clause-gives : goal.returns-then-not-contains-clause-gives
returns-then-not-contains-clause-gives g c =
    sought_found g.T.Ord.cmp g.met.T.Ord.total (λ s. difference g.T.Ord.cmp s (items c.args.other.now)) c.ours.ours c.next.new.self c.args.ours.now
    c.in-Some.item.now c.in-Some.ensures.steps c.ours.invariant
    (difference_not_found g.T.Ord.cmp c.next.new.self (items c.args.other.now) c.in-Some.item.now c.contains.result c.contains.ensures.there
    c.if-not-contains.true)

pub ours-preserved : goal.ours-preserved
ours-preserved g c =
    sought_after g.T.Ord.cmp g.met.T.Ord.total (λ s. difference g.T.Ord.cmp s (items c.args.other.now)) c.ours.ours c.next.new.self c.args.ours.now
    c.in-Some.item.now c.in-Some.ensures.steps c.ours.invariant
    (difference_found g.T.Ord.cmp c.next.new.self (items c.args.other.now) c.in-Some.item.now c.contains.result c.contains.ensures.there
    c.if-not-contains.false)
