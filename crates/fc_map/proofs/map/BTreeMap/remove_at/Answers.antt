use Rattle.std.proofs.Common.{◌∙◌}
use Rattle.fc_map.proofs.EntryFacts.{held_place, held_cut}
use Rattle.fc_map.proofs.PlaceFacts.{held_pair}
use Rattle.fc_map.proofs.map.BTreeMap.remove_at.Goals as goal

pub take_at-requires : goal.take_at-requires
take_at-requires g c = held_place g.Q.Query.order (g.Q.Query.sought c.args.key) c.args.self.now c.args.path.now c.requires.held

pub returns-clause-pair : goal.returns-clause-pair
returns-clause-pair g c = held_pair g.Q.Query.order (g.Q.Query.sought c.args.key) c.args.self.now c.args.path.now c.requires.sound c.requires.held
    ∙ c.take_at.ensures.pair

pub returns-clause-rest : goal.returns-clause-rest
returns-clause-rest g c = c.take_at.ensures.rest ∙ held_cut g.Q.Query.order (g.Q.Query.sought c.args.key) c.args.self.now c.args.path.now c.requires.sound
    c.requires.held
