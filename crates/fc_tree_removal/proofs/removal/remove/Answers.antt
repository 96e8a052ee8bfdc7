use Rattle.std.proofs.Common.{refl, arith, inl}
use Rattle.fc_tree_node.specs.Node.{IsSoundRoot}
use Rattle.fc_tree_node.specs.Place.{IsPlace}
use Rattle.fc_tree_removal.proofs.FewestFacts.{fewest_kept, fewest_gone}
use Rattle.fc_tree_removal.proofs.removal.remove.Goals as goal

pub take_empty_root-requires : goal.take_empty_root-requires
take_empty_root-requires g c =
    let h = c.requires.sound.0 in
    let sound : IsSoundRoot h c.in-Some.root = rw c.in-Some.is at c.requires.sound.1 in
    (_, refl, h, (c.remove_at-pair.ensures.levels h sound).0)

pub returns-clause-levels : goal.returns-clause-levels
returns-clause-levels g c h s =
    let sound : IsSoundRoot h c.in-Some.root = rw c.in-Some.is at s in
    c.take_empty_root.ensures.levels _ refl h (c.remove_at-pair.ensures.levels h sound).0

pub returns-then-len-gt0-clause-fewest : goal.returns-then-len-gt0-clause-fewest
returns-then-len-gt0-clause-fewest g c =
    fewest_kept c.args.tree.now c.in-Some.root _ c.args.count.now c.remove_at-pair.new.count c.in-Some.is
    c.remove_at-pair.ensures.levels c.remove_at-pair.ensures.fewest

pub returns-clause-fewest : goal.returns-clause-fewest
returns-clause-fewest g c h s other =
    fewest_gone c.args.tree.now c.in-Some.root _ c.args.count.now c.remove_at-pair.new.count c.in-Some.is
    c.remove_at-pair.ensures.fewest (omega arith) h s

pub remove_spared-requires : goal.remove_spared-requires
remove_spared-requires g c =
    let sound : IsSoundRoot c.requires.sound.0 c.in-Some.root = rw c.in-Some.is at c.requires.sound.1 in
    let place : IsPlace c.args.path.now c.in-Some.root = rw c.in-Some.is at c.requires.place in
    record { sound = (c.requires.sound.0, sound); short = c.if-path-le-MAX_STEPS.true; place = place; spared = c.is_spared.ensures (c.if-is_spared.true) }

pub returns-then-is_spared-clause-levels : goal.returns-then-is_spared-clause-levels
returns-then-is_spared-clause-levels g c h s =
    let sound : IsSoundRoot h c.in-Some.root = rw c.in-Some.is at s in
    inl (omega (arith, c.remove_spared.ensures.some), (c.remove_spared.ensures.levels h sound).0)

pub returns-then-is_spared-clause-fewest : goal.returns-then-is_spared-clause-fewest
returns-then-is_spared-clause-fewest g c =
    fewest_kept c.args.tree.now c.in-Some.root _ c.args.count.now c.remove_spared.new.count c.in-Some.is
    c.remove_spared.ensures.levels c.remove_spared.ensures.fewest

pub returns-then-is_spared-clause-blocks : goal.returns-then-is_spared-clause-blocks
returns-then-is_spared-clause-blocks g c = rw c.in-Some.is c.remove_spared.ensures.blocks

pub returns-then-len-gt0-clause-blocks : goal.returns-then-len-gt0-clause-blocks
returns-then-len-gt0-clause-blocks g c = rw c.in-Some.is c.remove_at-pair.ensures.blocks

pub returns-clause-blocks : goal.returns-clause-blocks
returns-clause-blocks g c = rw c.in-Some.is (omega (arith, c.take_empty_root.ensures.blocks, c.remove_at-pair.ensures.blocks))
