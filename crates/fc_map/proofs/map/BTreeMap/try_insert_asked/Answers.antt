use Rattle.std.proofs.Common.{length, arith}
use Rattle.fc_map.specs.Entries.{entries}
use Rattle.fc_map.proofs.CountFacts.{moved_after}
use Rattle.fc_map.proofs.map.BTreeMap.try_insert_asked.Goals as goal

pub returns-clause-bounded : goal.returns-clause-bounded
returns-clause-bounded g c =
    let put = c.in_ok-insert_at.ensures in
    let longer = put.length in
    moved_after (length (entries c.args.self.now)) (length (entries c.insert_at.new.self)) c.args.count.now c.locate.new.count c.insert_at.new.count
    c.locate.ensures.bounded c.locate.ensures.moves c.insert_at.ensures.comparisons put.moves (omega arith) (omega arith)
