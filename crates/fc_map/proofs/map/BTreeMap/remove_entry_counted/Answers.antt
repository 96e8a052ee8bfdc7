use Rattle.std.proofs.Common.{length, refl, arith}
use Rattle.fc_map.specs.Entries.{entries}
use Rattle.fc_map.proofs.CountFacts.{moved_after}
use Rattle.fc_map.proofs.PlaceFacts.{open_cut}
use Rattle.fc_map.proofs.map.BTreeMap.remove_entry_counted.Goals as goal

pub returns-in-Ok-clause-bounded : goal.returns-in-Ok-clause-bounded
returns-in-Ok-clause-bounded g c =
    let shorter = c.remove_at.ensures.length in
    moved_after (length (entries c.args.self.now)) (length (entries c.args.self.now)) c.args.count.now c.locate.new.count c.remove_at.new.count
    c.locate.ensures.bounded c.locate.ensures.moves c.remove_at.ensures.comparisons c.remove_at.ensures.moves (omega arith) (omega arith)

pub returns-in-Err-clause-rest : goal.returns-in-Err-clause-rest
returns-in-Err-clause-rest g c = open_cut g.Q.Query.order (g.Q.Query.sought c.args.key) c.args.self.now _ c.locate.ensures.sound c.in-Err.ensures.gap

pub returns-in-Ok-clause-fewest : goal.returns-in-Ok-clause-fewest
returns-in-Ok-clause-fewest g c h sound other =
    let least = c.remove_at.ensures.fewest h sound other in
    let none = c.locate.ensures.moves in
    omega arith

pub returns-in-Err-clause-fewest : goal.returns-in-Err-clause-fewest
returns-in-Err-clause-fewest g c h sound other = absurd (other refl)
