use Rattle.std.proofs.Common.{arith}
use Rattle.fc_set.specs.Items.{items}
use Rattle.fc_set.proofs.OperationLaws.{longer_is_no_part}
use Rattle.fc_set.proofs.set.BTreeSet.is_subset.Goals as goal

pub returns-then-len : goal.returns-then-len
returns-then-len g c =
    longer_is_no_part g.T.Ord.cmp g.met.T.Ord.total (items c.args.self.now) (items c.args.other.now) c.len.ensures.ascending c.len-2.ensures.ascending
    (omega (arith, c.if-len.true, c.len.ensures.value, c.len-2.ensures.value))
