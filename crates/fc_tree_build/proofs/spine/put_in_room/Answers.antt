use Rattle.std.proofs.Common.{rules, ◌<◌, ◌∷◌, [], length, ap, ◌∙◌, arith, length-append}
use Rattle.fc_base.specs.Sizes.{capacity}
use Rattle.fc_tree_node.specs.Node.{own_pairs}
use Rattle.fc_tree_drain.proofs.Opening.{back_push}
use Rattle.fc_tree_build.specs.Spine.{IsOpenEnd, IsSpine}
use Rattle.fc_tree_build.proofs.SpineFacts.{child_room, end_grown, end_pairs, spine_pairs, spine_popped, spine_pushed, length_pushed, last_has_room}
use Rattle.fc_tree_drain.proofs.OpenedBlocks.{pushed_blocks}
use Rattle.fc_tree_build.proofs.BuiltBlocks.{put_blocks, pair_blocks}
use Rattle.fc_tree_build.proofs.SpineFacts.{worth_pushed}
use Rattle.fc_tree_build.proofs.spine.put_in_room.Given as given
use Rattle.fc_tree_build.proofs.spine.put_in_room.Goals as goal
use Rattle.fc_tree_build.proofs.spine.put_in_room.Goals.{After-pop-node}

-- the last node, and the spine without it
end : (g : given.Over) (c : goal.After-pop-node g) → IsOpenEnd 0 c.pop-node.result × IsSpine 1 c.pop-node.new.self
end g c = spine_popped 0 _ _ _ c.pop-node.ensures c.requires.levels.0

pub put_child-requires-clause-inner : goal.put_child-requires-clause-inner
put_child-requires-clause-inner g c leaf = (end g (goal.at.put_child-requires-clause-inner g c).After-pop-node).0.1 leaf

pub put_child-requires-clause-room : goal.put_child-requires-clause-room
put_child-requires-clause-room g c = child_room 0 _ (end g (goal.at.put_child-requires-clause-room g c).After-pop-node).0

pub put_pair-requires : goal.put_pair-requires
put_pair-requires g c =
    let less = last_has_room _ _ _ c.pop-node.ensures c.requires.room in
    let e = ap length c.put_child.ensures.pairs in
    record { room = omega arith }

pub push-requires : goal.push-requires
push-requires g c = let l = length_pushed _ _ _ c.pop-node.ensures in (search rules, omega arith)

pub returns-clause-pairs : goal.returns-clause-pairs
returns-clause-pairs g c =
    let o = (end g (goal.at.returns-clause-pairs g c).After-pop-node).0 in
    let n = c.pop-node.result in
    let grown = end_pairs 0 n _ c.put_pair.new.node c.args.subtree c.args.pair o c.put_child.ensures.pairs c.put_child.ensures.children
    c.put_pair.ensures.pairs c.put_pair.ensures.children in
    spine_pairs _ _ _ _ n c.args.subtree c.args.pair (back_push _ _ _ c.pop-node.ensures) c.push.ensures grown

pub returns-clause-levels : goal.returns-clause-levels
returns-clause-levels g c =
    let o = end g (goal.at.returns-clause-levels g c).After-pop-node in
    let e = c.put_child.ensures.pairs in
    let k = ap length e in
    let room = last_has_room _ _ _ c.pop-node.ensures c.requires.room in
    let less : length (own_pairs c.put_child.new.node) < capacity = omega arith in
    let grown = end_grown 0 _ _ c.put_pair.new.node c.args.subtree c.args.pair o.0 e c.put_child.ensures.children c.put_pair.ensures.pairs
    c.put_pair.ensures.children (λ leaf. c.put_child.ensures.inner (c.put_pair.ensures.leaf.0 leaf)) less c.requires.levels.1 in
    spine_pushed 0 _ _ _ c.push.ensures o.1 grown

pub returns-clause-blocks : goal.returns-clause-blocks
returns-clause-blocks g c =
    let o = (end g (goal.at.returns-clause-blocks g c).After-pop-node).0 in
    let child = put_blocks c.pop-node.result _ c.args.subtree o.1 c.put_child.ensures.inner c.put_child.ensures.children in
    let pair = pair_blocks _ c.put_pair.new.node c.put_pair.ensures.children c.put_pair.ensures.leaf in
    let popped = pushed_blocks _ c.args.spine.now _ c.pop-node.ensures in
    let pushed = pushed_blocks _ _ _ c.push.ensures in
    omega (arith, child, pair, popped, pushed)

pub returns-clause-worth : goal.returns-clause-worth
returns-clause-worth g c =
    let e = ap length c.put_child.ensures.pairs in
    let q = ap length c.put_pair.ensures.pairs ∙ length-append (own_pairs c.put_child.new.node) (c.args.pair ∷ []) in
    let old = worth_pushed _ _ _ c.pop-node.ensures in
    let new = worth_pushed _ _ _ c.push.ensures in
    omega arith
