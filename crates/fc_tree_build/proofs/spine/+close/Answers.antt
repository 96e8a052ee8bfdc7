use Rattle.std.proofs.Common.{rules, ℕ, suc, ◌<◌, length, sym, ap, subst, arith}
use Rattle.std.proofs.lemmas.List.{nil_from_length}
use Rattle.fc_tree_node.specs.Bordered.{IsRightBordered}
use Rattle.fc_tree_build.specs.Spine.{IsOpenEnd, IsSpine}
use Rattle.fc_tree_build.proofs.SpineFacts.{spine_popped, child_room, length_pushed, level_pushed, closed_bordered, closed_pairs, closing_pairs}
use Rattle.fc_tree_node.proofs.BlockFacts.{all_blocks}
use Rattle.fc_tree_drain.proofs.OpenedBlocks.{pushed_blocks}
use Rattle.fc_tree_build.proofs.BuiltBlocks.{put_blocks}
use Rattle.fc_tree_build.proofs.spine.+close.Given as given
use Rattle.fc_tree_build.proofs.spine.+close.Goals as goal
use Rattle.fc_tree_build.proofs.spine.+close.Goals.{After-pop-node}

-- the last node, and the spine without it
end : (g : given.Over) (t : ℕ) (c : goal.After-pop-node g t)
    → IsOpenEnd c.requires.levels.0 c.pop-node.result × IsSpine (suc c.requires.levels.0) c.pop-node.new.self
end g t c = spine_popped c.requires.levels.0 _ _ _ c.pop-node.ensures c.requires.levels.1

pub put_child-requires-clause-inner : goal.put_child-requires-clause-inner
put_child-requires-clause-inner g t c leaf = (end g t (goal.at.put_child-requires-clause-inner g t c).After-pop-node).0.1 leaf

pub put_child-requires-clause-room : goal.put_child-requires-clause-room
put_child-requires-clause-room g t c = child_room _ _ (end g t (goal.at.put_child-requires-clause-room g t c).After-pop-node).0

pub close-requires : goal.close-requires
close-requires g t c κs within =
    let p = end g t (goal.at.close-requires g t c).After-pop-node in
    let l = length_pushed _ _ _ c.pop-node.ensures in
    let falls : length c.pop-node.new.self < length c.args.spine.now = omega arith in
    let h = c.requires.levels.0 in
    let closed = closed_bordered h _ _ _ p.0 c.put_child.ensures.pairs c.put_child.ensures.children c.requires.levels.2 in
    (search rules, (search rules, (search rules, (search rules, (search rules, (suc h, p.1, closed))))))

pub returns-clause-pairs : goal.returns-clause-pairs
returns-clause-pairs g t c =
    let o = (end g t (goal.at.returns-clause-pairs g t c).After-pop-node).0 in
    let closed = closed_pairs c.requires.levels.0 _ _ _ o c.put_child.ensures.pairs c.put_child.ensures.children in
    closing_pairs _ _ _ c.put_child.new.node c.args.last _ c.pop-node.ensures closed c.close.ensures.pairs

pub returns-clause-levels : goal.returns-clause-levels
returns-clause-levels g t c h s r =
    let p = spine_popped h _ _ _ c.pop-node.ensures s in
    let closed = closed_bordered h _ _ _ p.0 c.put_child.ensures.pairs c.put_child.ensures.children r in
    subst (λ k. IsRightBordered k c.close.result) (sym (level_pushed h _ _ _ c.pop-node.ensures)) (c.close.ensures.levels (suc h) p.1 closed)

pub returns-then-len-eq0-clause-blocks : goal.returns-then-len-eq0-clause-blocks
returns-then-len-eq0-clause-blocks g t c =
    let none = ap (λ s. all_blocks s) (nil_from_length c.args.spine.now (omega arith)) in
    omega (arith, none)

pub returns-clause-blocks : goal.returns-clause-blocks
returns-clause-blocks g t c =
    let o = (end g t (goal.at.returns-clause-blocks g t c).After-pop-node).0 in
    let child = put_blocks c.pop-node.result _ c.args.last o.1 c.put_child.ensures.inner c.put_child.ensures.children in
    let popped = pushed_blocks _ c.args.spine.now _ c.pop-node.ensures in
    omega (arith, child, popped, c.close.ensures.blocks)
