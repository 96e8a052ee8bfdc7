use Rattle.std.proofs.Common.{ap, arith}
use denote.Param.{param}
use Rattle.fc_tree_build.specs.Spine.{level_above}
use Rattle.fc_tree_drain.proofs.Sizes.{nodes_fit}
use Rattle.fc_tree_build.proofs.StackSizes.{items_fit}
use Rattle.fc_tree_build.proofs.Builders.{last_is, all_built}
use Rattle.fc_tree_build.proofs.GrownFacts.{closed_all, closed_sound}
use Rattle.fc_tree_node.specs.Blocks.{blocks_in}
use Rattle.fc_tree_build.proofs.builder.Builder.finish.Goals as goal

pub array_drop-spine-inside-requires : goal.array_drop-spine-inside-requires
array_drop-spine-inside-requires g c =
    items_fit (param 0 g.row.K) (param 1 g.row.V) g.row.A g.A.Allocator g.met.A.Handle.small

pub close-requires : goal.close-requires
close-requires g c =
    let i = c.self.invariant in
    let l = last_is _ _ _ _ c.in-Some.is i.0 in
    (nodes_fit (param 0 g.row.K) (param 1 g.row.V) g.row.A g.A.Allocator g.met.A.Handle.small, (0, i.1, (l.0, l.1)))

pub rebalance_right-requires : goal.rebalance_right-requires
rebalance_right-requires g c =
    let i = c.self.invariant in
    let l = last_is _ _ _ _ c.in-Some.is i.0 in
    (level_above 0 c.self.inside.spine, c.close.ensures.levels 0 i.1 (l.0, l.1))

pub array_drop-spine-inside-requires-2 : goal.array_drop-spine-inside-requires-2
array_drop-spine-inside-requires-2 g c =
    items_fit (param 0 g.row.K) (param 1 g.row.V) g.row.A g.A.Allocator g.met.A.Handle.small

pub returns-clause-pairs : goal.returns-clause-pairs
returns-clause-pairs g c =
    let l = last_is _ _ _ _ c.in-Some.is c.self.invariant.0 in
    closed_all c.self.inside.spine c.in-Some.last c.close.result c.rebalance_right.result c.args.self.pairs l.1 c.rebalance_right.ensures.pairs
    c.close.ensures.pairs
    (all_built c.self.inside.last c.in-Some.last c.self.inside.spine _ c.in-Some.is (ap (λ b. b.pairs) c.self.view_is))

pub returns-clause-sound : goal.returns-clause-sound
returns-clause-sound g c =
    let i = c.self.invariant in
    let l = last_is _ _ _ _ c.in-Some.is i.0 in
    closed_sound c.self.inside.spine c.rebalance_right.result i.5.0
    (c.rebalance_right.ensures.levels (level_above 0 c.self.inside.spine) (c.close.ensures.levels 0 i.1 (l.0, l.1)))

pub returns-clause-blocks : goal.returns-clause-blocks
returns-clause-blocks g c =
    let view = ap (λ b. b.blocks) c.self.view_is in
    let was = ap (λ o. blocks_in o) c.in-Some.is in
    omega (arith, view, was, c.close.ensures.blocks, c.rebalance_right.ensures.blocks)
