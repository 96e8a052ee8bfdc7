use Rattle.std.proofs.Common.{sym, ap}
use Rattle.std.specs.Option.{option_map}
use Rattle.fc_map.proofs.PlaceFacts.{open_none}
use Rattle.fc_map.proofs.map.BTreeMap.finish.Goals as goal

pub returns-in-Some-clause-old : goal.returns-in-Some-clause-old
returns-in-Some-clause-old g c =
    let ready = rw c.in-Some.is at c.requires.prepared in
    sym (ap (option_map (λ p. p.1)) (open_none g.K.Ord.cmp c.args.key c.args.self.now c.args.path.now c.requires.sound ready.0))
