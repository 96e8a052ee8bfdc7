use Rattle.std.proofs.Common.{length, arith}
use Rattle.fc_map.specs.Entries.{entries}
use Rattle.fc_map.proofs.CountFacts.{moved_after}
use Rattle.fc_map.proofs.map.for_sets.replace.Goals as goal

pub returns-in-Ok-clause-bounded : goal.returns-in-Ok-clause-bounded
returns-in-Ok-clause-bounded g c =
    let same = c.exchange_at.ensures.length in
    let some = c.exchange_at.ensures.some in
    moved_after (length (entries c.args.map.now)) (length (entries c.exchange_at.new.self)) c.args.count.now c.locate.new.count c.exchange_at.new.count
    c.locate.ensures.bounded c.locate.ensures.moves c.exchange_at.ensures.comparisons c.exchange_at.ensures.moves (omega arith) (omega arith)

pub returns-in-Ok-insert_at-clause-bounded : goal.returns-in-Ok-insert_at-clause-bounded
returns-in-Ok-insert_at-clause-bounded g c =
    let longer = c.in-Ok-insert_at.ensures.length in
    moved_after (length (entries c.args.map.now)) (length (entries c.insert_at.new.self)) c.args.count.now c.locate.new.count c.insert_at.new.count
    c.locate.ensures.bounded c.locate.ensures.moves c.insert_at.ensures.comparisons c.in-Ok-insert_at.ensures.moves (omega arith) (omega arith)
