use Rattle.std.proofs.Common.{◌<◌, Some, rules, arith, ◌∙◌}
use Rattle.fc_tree_node.specs.Measures.{height_of}
use Rattle.fc_tree_split.proofs.Heights.{bordered_height}
use Rattle.fc_tree_node.proofs.Heir.{levelled_formed, only_pairs, heir_pairs}
use Rattle.fc_tree_split.proofs.Rebalanced.{bordered_formed, heir_levels, within_more, heir_bordered}
use Rattle.fc_tree_node.proofs.SiblingBlocks.{heir_blocks}
use Rattle.fc_tree_split.proofs.rebalancing.+rebalance.Goals as goal

pub into_only_child-requires-clause-formed : goal.into_only_child-requires-clause-formed
into_only_child-requires-clause-formed g t c = bordered_formed c.args.side _ _ c.requires.1

pub rebalance-requires : goal.rebalance-requires
rebalance-requires g t c κs within =
    let r = heir_bordered c.args.side _ c.args.root c.in-Some.child c.in-Some.ensures c.requires.1 in
    let x = bordered_height c.args.side _ c.args.root c.requires.1 in
    let y = bordered_height c.args.side _ c.in-Some.child r.bordered in
    let falls : height_of c.in-Some.child < height_of c.args.root = omega arith in
    (search rules, (search rules, (search rules, (search rules, (r.below, r.bordered)))))

pub returns-in-Some-clause-pairs : goal.returns-in-Some-clause-pairs
returns-in-Some-clause-pairs g t c =
    c.rebalance.ensures.pairs ∙ only_pairs c.args.root _ (omega arith) c.in-Some.ensures

pub returns-in-Some-clause-levels : goal.returns-in-Some-clause-levels
returns-in-Some-clause-levels g t c h b =
    let r = heir_bordered c.args.side h c.args.root c.in-Some.child c.in-Some.ensures b in
    within_more r.below h _ (omega arith) (c.rebalance.ensures.levels r.below r.bordered)

pub into_only_child-requires-2-clause-formed : goal.into_only_child-requires-2-clause-formed
into_only_child-requires-2-clause-formed g t c =
    levelled_formed _ _ (c.rebalance_below.ensures.levels _ c.requires.1).0

pub returns-clause-pairs : goal.returns-clause-pairs
returns-clause-pairs g t c =
    heir_pairs _ c.rebalance_below.new.node (omega arith) c.into_only_child-2.ensures ∙ c.rebalance_below.ensures.pairs

pub returns-clause-levels : goal.returns-clause-levels
returns-clause-levels g t c h b =
    heir_levels _ h c.rebalance_below.new.node c.into_only_child-2.ensures (c.rebalance_below.ensures.levels h b).0

pub returns-in-Some-clause-blocks : goal.returns-in-Some-clause-blocks
returns-in-Some-clause-blocks g t c =
    let heir = heir_blocks (Some c.in-Some.child) c.args.root c.in-Some.ensures in
    omega (arith, heir, c.rebalance.ensures.blocks)

pub returns-clause-blocks : goal.returns-clause-blocks
returns-clause-blocks g t c =
    let heir = heir_blocks _ c.rebalance_below.new.node c.into_only_child-2.ensures in
    omega (arith, heir, c.rebalance_below.ensures.blocks)
