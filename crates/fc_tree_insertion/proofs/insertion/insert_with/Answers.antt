use Rattle.std.proofs.Common.{◌≡◌, suc, ◌-◌, length, ap, subst, ◌∙◌, arith}
use Rattle.fc_tree_node.specs.Node.{IsLevelled}
use Rattle.fc_tree_node.proofs.BlockFacts.{all_blocks, blocks_inner}
use Rattle.fc_tree_insertion.proofs.NewPairs.{put_same, put_higher}
use Rattle.fc_tree_insertion.proofs.InsertedLevels.{levelled_root}
use Rattle.fc_tree_insertion.proofs.InsertedPairs.{put_root}
use Rattle.fc_tree_insertion.proofs.Cascades.{cascade_whole, needed_least, needed_whole, needed_part, moves_part}
use Rattle.fc_tree_insertion.proofs.insertion.insert_with.Goals as goal

pub insert_below-requires : goal.insert_below-requires
insert_below-requires g c =
    let enough = needed_least c.args.path.now c.args.root.now in
    record {
      some = c.requires.some;
      path = c.requires.path;
      levels = c.requires.sound.1;
      leaf = c.requires.leaf;
      inner = omega arith;
    }

pub take-empty-requires : goal.take-empty-requires
take-empty-requires g c =
    let e = needed_whole c.args.path.now c.args.root.now (omega (arith, c.in-Some.ensures.halved)) in
    omega (arith, c.in-Some.ensures.halved)

pub returns-in-None-clause-used_up : goal.returns-in-None-clause-used_up
returns-in-None-clause-used_up g c =
    let e = needed_part c.args.path.now c.args.root.now (omega (arith, c.in-None.ensures.halved)) in
    omega (arith, c.in-None.ensures.halved)

pub returns-in-None-clause-higher : goal.returns-in-None-clause-higher
returns-in-None-clause-higher g c h =
    absurd (let e = cascade_whole c.args.path.now c.args.root.now h in omega (arith, c.in-None.ensures.halved))

pub returns-in-None-clause-moves : goal.returns-in-None-clause-moves
returns-in-None-clause-moves g c =
    let e = moves_part c.args.path.now c.args.root.now (omega (arith, c.in-None.ensures.halved)) in
    omega (arith, c.in-None.ensures.moves)

pub returns-in-None-clause-blocks : goal.returns-in-None-clause-blocks
returns-in-None-clause-blocks g c =
    let e = needed_part c.args.path.now c.args.root.now (omega (arith, c.in-None.ensures.halved)) in
    rw e c.in-None.ensures.blocks

pub returns-in-Some-clause-blocks : goal.returns-in-Some-clause-blocks
returns-in-Some-clause-blocks g c =
    let e = needed_whole c.args.path.now c.args.root.now (omega (arith, c.in-Some.ensures.halved)) in
    let two = ap all_blocks c.grow.ensures.children in
    let some = ap length c.grow.ensures.children in
    let root = blocks_inner c.grow.new.root (omega (arith, some)) in
    rw e (omega (arith, two, root, c.in-Some.ensures.blocks, c.in-Some.ensures.halved, c.requires.some))

pub returns-in-Some-clause-pairs : goal.returns-in-Some-clause-pairs
returns-in-Some-clause-pairs g c =
    put_root c.grow.new.root c.insert_below.new.node c.in-Some.right c.in-Some.up c.grow.ensures.pairs c.grow.ensures.children
    ∙ c.in-Some.ensures.pairs

pub returns-in-Some-clause-higher : goal.returns-in-Some-clause-higher
returns-in-Some-clause-higher g c h =
    let e = c.in-Some.ensures in
    let one = ap length c.grow.ensures.pairs in
    let up : suc (length c.args.path.now - 1) ≡ length c.args.path.now = omega arith in
    let levels = levelled_root _ _ _ _ _ c.grow.ensures.pairs c.grow.ensures.children (e.size.0.0, e.levels.0) (e.size.1.0, e.levels.1) in
    ((omega arith, subst (λ k. IsLevelled k c.grow.new.root) up levels), one)

pub returns-in-None-clause-place : goal.returns-in-None-clause-place
returns-in-None-clause-place g c =
    let e = c.in-None.ensures in
    put_same c.args.path.now c.args.root.now c.insert_below.new.node c.args.pair (length c.args.path.now - 1) e.halved e.levels.0 e.pairs e.led

pub returns-in-Some-clause-place : goal.returns-in-Some-clause-place
returns-in-Some-clause-place g c =
    let e = c.in-Some.ensures in
    put_higher c.args.path.now c.args.root.now c.grow.new.root c.insert_below.new.node c.in-Some.right c.in-Some.up c.args.pair
    (length c.args.path.now - 1) e.halved c.grow.ensures.pairs c.grow.ensures.children (e.size.0.0, e.levels.0) (e.size.1.0, e.levels.1) e.pairs e.led
