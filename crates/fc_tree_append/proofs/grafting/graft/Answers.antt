use Rattle.std.proofs.Common.{suc, ◌+◌, ◌∙◌, arith}
use Rattle.fc_tree_split.proofs.Rebalanced.{within_more}
use Rattle.fc_tree_insertion.proofs.InsertedPairs.{put_root}
use Rattle.fc_tree_append.proofs.GraftedFacts.{root_bordered}
use Rattle.fc_tree_append.proofs.JoinedBlocks.{root_blocks}
use Rattle.fc_tree_append.proofs.grafting.graft.Goals as goal

pub rebalance-requires : goal.rebalance-requires
rebalance-requires g c = (c.args.depth + c.requires.levels.0, c.in-None.ensures.levels c.requires.levels.0 c.requires.levels.1 c.requires.levels.2)

pub returns-in-None-clause-pairs : goal.returns-in-None-clause-pairs
returns-in-None-clause-pairs g c = c.rebalance.ensures.pairs ∙ c.in-None.ensures.pairs

pub returns-in-None-clause-levels : goal.returns-in-None-clause-levels
returns-in-None-clause-levels g c h l o =
    within_more (c.args.depth + h) (suc (c.args.depth + h)) _ (omega arith) (c.rebalance.ensures.levels (c.args.depth + h) (c.in-None.ensures.levels h l o))

pub rebalance-requires-in-Some : goal.rebalance-requires-in-Some
rebalance-requires-in-Some g c =
    let k = c.in-Some.ensures.levels c.requires.levels.0 c.requires.levels.1 c.requires.levels.2 in (
      suc (c.args.depth + c.requires.levels.0),
      root_bordered c.args.side _ c.grow.new.root c.graft_below.new.node c.in-Some.up c.in-Some.right
          c.grow.ensures.pairs c.grow.ensures.children k,
    )

pub returns-clause-pairs : goal.returns-clause-pairs
returns-clause-pairs g c =
    c.rebalance-in-Some.ensures.pairs ∙ put_root c.grow.new.root c.graft_below.new.node c.in-Some.right c.in-Some.up c.grow.ensures.pairs
    c.grow.ensures.children
    ∙ c.in-Some.ensures.pairs

pub returns-clause-levels : goal.returns-clause-levels
returns-clause-levels g c h l o =
    let k = c.in-Some.ensures.levels h l o in
    c.rebalance-in-Some.ensures.levels (suc (c.args.depth + h))
    (root_bordered c.args.side _ c.grow.new.root c.graft_below.new.node c.in-Some.up c.in-Some.right c.grow.ensures.pairs c.grow.ensures.children k)

pub returns-in-None-clause-blocks : goal.returns-in-None-clause-blocks
returns-in-None-clause-blocks g c = let below = c.in-None.ensures in omega (arith, below.blocks, c.rebalance.ensures.blocks)

pub returns-clause-blocks : goal.returns-clause-blocks
returns-clause-blocks g c =
    let root = root_blocks c.grow.new.root _ _ c.grow.ensures.children in
    omega (arith, root, c.in-Some.ensures.blocks, c.rebalance-in-Some.ensures.blocks, c.take.ensures.len)
