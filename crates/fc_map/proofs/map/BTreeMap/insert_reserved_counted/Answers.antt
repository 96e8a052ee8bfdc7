use Rattle.std.proofs.Common.{length, arith}
use Rattle.fc_map.specs.Entries.{entries}
use Rattle.fc_map.proofs.CountFacts.{moved_after}
use Rattle.fc_map.proofs.map.BTreeMap.insert_reserved_counted.Goals as goal

pub returns-in-Err-clause-bounded : goal.returns-in-Err-clause-bounded
returns-in-Err-clause-bounded g c =
    let found = c.locate.ensures in
    let put = c.insert_ready.ensures in
    let longer = put.length in
    moved_after (length (entries c.args.self.now)) (length (entries c.insert_ready.new.self)) c.args.count.now c.locate.new.count c.insert_ready.new.count
    found.bounded found.moves put.comparisons put.moves (omega arith) (omega arith)
