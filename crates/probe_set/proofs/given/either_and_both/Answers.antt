use Rattle.fc_set.specs.Items.{items}
use Rattle.fc_set.proofs.OperationLaws.{lengths}
use Rattle.probe_set.proofs.given.either_and_both.Goals as goal

pub returns : goal.returns
returns g c = rw (c.union.ensures.sides, c.intersection.ensures.all) (lengths g.T.Ord.cmp g.met.T.Ord.total (items c.args.ours.now) (items c.args.theirs.now)
    c.union.ensures.ascending.0 c.union.ensures.ascending.1)
