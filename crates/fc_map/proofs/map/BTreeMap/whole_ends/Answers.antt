use Rattle.std.proofs.Common.{arith}
use Rattle.fc_map.proofs.map.BTreeMap.whole_ends.Goals as goal

pub returns : goal.returns
returns g c =
    let first = rw c.self.view_is at c.first_gap_in.ensures in
    let last = rw c.self.view_is at c.last_gap_in.ensures in
    let f = first.front in
    record { ends = (first.gap, last.gap, omega arith); front = first.front; back = last.back }
