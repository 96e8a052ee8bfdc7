use Rattle.std.proofs.Common.{arith}
use Rattle.fc_map.proofs.map.BTreeMap.range_ends.Goals as goal

pub returns : goal.returns
returns g c =
    let e = rw c.self.view_is at c.gaps_in.ensures in
    record { ends = e.ends; front = omega (arith, e.front); back = omega (arith, e.front, e.back) }
