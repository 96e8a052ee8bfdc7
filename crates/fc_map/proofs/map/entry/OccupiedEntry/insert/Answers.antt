use Rattle.std.proofs.Common.{[], refl}
use Rattle.fc_map.proofs.EntryFacts.{rewritten}
use Rattle.fc_map.proofs.map.entry.OccupiedEntry.insert.Goals as goal

pub returns-clause-written : goal.returns-clause-written
returns-clause-written g c =
    let o = c.args.self.now in
    let r = rewritten o.map.now o.path c.args.value c.get_mut.ensures.sound (o.place []) in
    rw c.replace.ensures.after (refl, refl, r.key_is, r.value_is, r.again, r.sides)
