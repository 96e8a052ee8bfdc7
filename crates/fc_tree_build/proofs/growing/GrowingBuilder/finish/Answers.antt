use Rattle.fc_tree_build.specs.Spine.{level_above}
use Rattle.fc_tree_build.proofs.GrownFacts.{grown_leaf, all_pairs, closed_all, closed_sound}
use Rattle.fc_tree_build.proofs.growing.GrowingBuilder.finish.Goals as goal

pub rebalance_right-requires : goal.rebalance_right-requires
rebalance_right-requires g c =
    let i = grown_leaf _ _ _ _ c.in-Some.is c.self.invariant in
    (level_above 0 c.self.inside.spine, c.close.ensures.levels 0 i.0.2 (i.0.0, i.0.1))

pub returns-clause-pairs : goal.returns-clause-pairs
returns-clause-pairs g c =
    let i = grown_leaf _ _ _ _ c.in-Some.is c.self.invariant in
    closed_all c.self.inside.spine c.in-Some.last c.close.result c.rebalance_right.result c.args.self.pairs i.0.1 c.rebalance_right.ensures.pairs
    c.close.ensures.pairs
    (all_pairs _ _ c.self.inside.spine _ c.in-Some.is c.self.view_is)

pub returns-clause-sound : goal.returns-clause-sound
returns-clause-sound g c =
    let i = grown_leaf _ _ _ _ c.in-Some.is c.self.invariant in
    closed_sound c.self.inside.spine c.rebalance_right.result i.0.3
    (c.rebalance_right.ensures.levels (level_above 0 c.self.inside.spine) (c.close.ensures.levels 0 i.0.2 (i.0.0, i.0.1)))
