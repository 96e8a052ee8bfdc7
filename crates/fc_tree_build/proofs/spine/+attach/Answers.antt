use Rattle.std.proofs.Common.{rules, ◌≡◌, ℕ, suc, ◌+◌, ◌-◌, ◌<◌, ◌≤◌, [], ◌∷◌, length, ap, ◌∙◌, arith, length-append}
use Rattle.fc_base.specs.Sizes.{capacity, most_levels}
use Rattle.fc_tree_node.specs.Node.{own_pairs, IsEmptyInner}
use Rattle.fc_tree_build.specs.Spine.{IsOpenEnd}
use Rattle.fc_tree_build.specs.Spares.{needed}
use Rattle.fc_tree_build.proofs.SpineFacts.{child_room, end_grown, end_pairs, spine_pairs, spine_pushed, worth_pushed, count_pushed, length_pushed}
use Rattle.fc_tree_build.proofs.SpineFacts.{closed_sound, closed_pairs, carried_pairs, some_needed, used_here, not_empty, spare_taken, empty_end}
use Rattle.fc_tree_drain.proofs.OpenedBlocks.{pushed_blocks}
use Rattle.fc_tree_build.proofs.BuiltBlocks.{spare_blocks, put_blocks, pair_blocks}
use Rattle.fc_tree_build.proofs.spine.+attach.Given as given
use Rattle.fc_tree_build.proofs.spine.+attach.Goals as goal
use Rattle.fc_tree_build.proofs.spine.+attach.Goals.{After-open_end-node, After-len, After-take_spare}

-- the node at the end
end : (g : given.Over) (t : ℕ) (c : goal.After-open_end-node g t) → IsOpenEnd c.requires.levels.0 c.open_end-node.result
end g t c = (c.open_end-node.ensures.levels c.requires.levels.0 c.requires.levels.1).0

-- a full node at the end is the spine's own, so that no spare one was taken for it
full : (g : given.Over) (t : ℕ) (c : goal.After-len g t) → capacity ≤ c.len.result
    → (capacity ≤ length (own_pairs c.open_end-node.result)) × (0 < length c.args.spine.now)
    × (needed c.args.spine.now ≡ needed c.open_end-node.new.spine + 1) × (length c.open_end-node.new.spares.items ≡ length c.args.spares.now.items)
full g t c z =
    let e = ap length c.put_child.ensures.pairs in
    let v = c.len.ensures.value in
    let f : capacity ≤ length (own_pairs c.open_end-node.result) = omega arith in
    let some = not_empty c.args.spine.now _ c.open_end-node.ensures.new_root f in
    (f, some, c.open_end-node.ensures.full some f, ap (λ v. length v.items) (c.open_end-node.ensures.kept some))

pub open_end-node-requires : goal.open_end-node-requires
open_end-node-requires g t c = let some = some_needed c.args.spine.now in (search rules, (c.requires.empty, omega arith))

pub put_child-requires-clause-inner : goal.put_child-requires-clause-inner
put_child-requires-clause-inner g t c leaf = (end g t (goal.at.put_child-requires-clause-inner g t c).After-open_end-node).1 leaf

pub put_child-requires-clause-room : goal.put_child-requires-clause-room
put_child-requires-clause-room g t c = child_room c.requires.levels.0 _ (end g t (goal.at.put_child-requires-clause-room g t c).After-open_end-node)

pub push-requires : goal.push-requires
push-requires g t c =
    (search rules, omega arith)

pub returns-then-len-lt-CAPACITY-clause-pairs : goal.returns-then-len-lt-CAPACITY-clause-pairs
returns-then-len-lt-CAPACITY-clause-pairs g t c =
    let o = end g t (goal.at.returns-then-len-lt-CAPACITY-clause-pairs g t c).After-open_end-node in
    let n = c.open_end-node.result in
    let grown = end_pairs c.requires.levels.0 n _ c.put_pair.new.node c.args.subtree c.args.pair o c.put_child.ensures.pairs
    c.put_child.ensures.children c.put_pair.ensures.pairs c.put_pair.ensures.children in
    spine_pairs _ _ _ _ n c.args.subtree c.args.pair c.open_end-node.ensures.pairs c.push.ensures grown

pub returns-then-len-lt-CAPACITY-clause-levels : goal.returns-then-len-lt-CAPACITY-clause-levels
returns-then-len-lt-CAPACITY-clause-levels g t c h s w =
    let o = c.open_end-node.ensures.levels h s in
    let less : length (own_pairs c.put_child.new.node) < capacity = omega arith in
    let grown = end_grown h c.open_end-node.result _ c.put_pair.new.node c.args.subtree c.args.pair o.0 c.put_child.ensures.pairs
    c.put_child.ensures.children c.put_pair.ensures.pairs c.put_pair.ensures.children
    (λ leaf. c.put_child.ensures.inner (c.put_pair.ensures.leaf.0 leaf)) less w in
    spine_pushed h _ _ _ c.push.ensures o.1 grown

pub returns-then-len-lt-CAPACITY-clause-worth : goal.returns-then-len-lt-CAPACITY-clause-worth
returns-then-len-lt-CAPACITY-clause-worth g t c =
    let e = ap length c.put_child.ensures.pairs in
    let q = ap length c.put_pair.ensures.pairs ∙ length-append (own_pairs c.put_child.new.node) (c.args.pair ∷ []) in
    let a = worth_pushed _ _ _ c.push.ensures in
    omega arith

pub returns-then-len-lt-CAPACITY-clause-left : goal.returns-then-len-lt-CAPACITY-clause-left
returns-then-len-lt-CAPACITY-clause-left g t c =
    let e = ap length c.put_child.ensures.pairs in
    let q = ap length c.put_pair.ensures.pairs ∙ length-append (own_pairs c.put_child.new.node) (c.args.pair ∷ []) in
    let a = count_pushed _ _ _ c.push.ensures in
    let l = length_pushed _ _ _ c.push.ensures in
    omega arith

pub returns-then-len-lt-CAPACITY-clause-used : goal.returns-then-len-lt-CAPACITY-clause-used
returns-then-len-lt-CAPACITY-clause-used g t c =
    let e = ap length c.put_child.ensures.pairs in
    let v = c.len.ensures.value in
    let o = c.open_end-node.ensures in
    used_here _ _ _ _ (λ some. ap (λ v. length v.items) (o.kept some)) (λ some. o.room some (omega arith)) o.nodes o.shorter

pub returns-then-len-lt-CAPACITY-clause-short : goal.returns-then-len-lt-CAPACITY-clause-short
returns-then-len-lt-CAPACITY-clause-short g t c d long few =
    let some = some_needed c.args.spine.now in
    let l = length_pushed _ _ _ c.push.ensures in
    omega arith

pub attach-requires : goal.attach-requires
attach-requires g t c κs within =
    let f = full g t (goal.at.attach-requires g t c).After-len c.if-len-lt-CAPACITY.false in
    let h = c.requires.levels.0 in
    let o = c.open_end-node.ensures.levels h c.requires.levels.1 in
    let e = c.put_child.ensures.pairs in
    let k = ap length e in
    let closed = closed_sound h _ _ _ o.0 e c.put_child.ensures.children (omega arith) c.requires.levels.2 in
    let empty = c.open_end-node.ensures.empty in
    let d = c.requires.low.0 - 1 in
    let falls : length c.open_end-node.new.spine < length c.args.spine.now = omega arith in
    let s = c.open_end-node.new.spine in
    let short : (e : ℕ) × (e ≤ most_levels) × (length s ≤ e) × (needed s ≤ e) = (d, omega arith, omega arith, omega arith) in
    (search rules, (search rules, (search rules, (search rules, (search rules, ((suc h, o.1, closed), (empty, (omega arith, short))))))))

pub take_spare-requires : goal.take_spare-requires
take_spare-requires g t c =
    let f = full g t (goal.at.take_spare-requires g t c).After-len c.if-len-lt-CAPACITY.false in
    omega arith

pub push-requires-2 : goal.push-requires-2
push-requires-2 g t c =
    let f = full g t (goal.at.push-requires-2 g t c).After-len c.if-len-lt-CAPACITY.false in
    let low = c.requires.low.1 in
    let s = c.attach.ensures.short (c.requires.low.0 - 1) (omega arith) (omega arith) in
    (search rules, omega arith)

-- an empty node came up from the spares
empty : (g : given.Over) (t : ℕ) (c : goal.After-take_spare g t) → IsEmptyInner c.take_spare.result
empty g t c = (spare_taken _ _ _ c.take_spare.ensures.items c.attach.ensures.empty).0

pub returns-clause-pairs : goal.returns-clause-pairs
returns-clause-pairs g t c =
    let o = end g t (goal.at.returns-clause-pairs g t c).After-open_end-node in
    let z = empty g t (goal.at.returns-clause-pairs g t c).After-take_spare in
    let closed = closed_pairs c.requires.levels.0 _ _ _ o c.put_child.ensures.pairs c.put_child.ensures.children in
    carried_pairs _ _ _ _ _ c.open_end-node.result _ c.args.subtree c.args.pair c.open_end-node.ensures.pairs closed c.attach.ensures.pairs z c.push-2.ensures

pub returns-clause-levels : goal.returns-clause-levels
returns-clause-levels g t c h s w =
    let o = c.open_end-node.ensures.levels h s in
    let z = empty g t (goal.at.returns-clause-levels g t c).After-take_spare in
    let closed = closed_sound h _ _ _ o.0 c.put_child.ensures.pairs c.put_child.ensures.children (omega arith) w in
    spine_pushed h _ _ _ c.push-2.ensures (c.attach.ensures.levels (suc h) o.1 closed) (empty_end h _ z)

pub returns-clause-empty : goal.returns-clause-empty
returns-clause-empty g t c = (spare_taken _ _ _ c.take_spare.ensures.items c.attach.ensures.empty).1

pub returns-clause-worth : goal.returns-clause-worth
returns-clause-worth g t c =
    let o = (end g t (goal.at.returns-clause-worth g t c).After-open_end-node).0 in
    let e = ap length c.put_child.ensures.pairs in
    let z = ap length (empty g t (goal.at.returns-clause-worth g t c).After-take_spare).0 in
    let a = worth_pushed _ _ _ c.push-2.ensures in
    omega arith

pub returns-clause-left : goal.returns-clause-left
returns-clause-left g t c =
    let o = (end g t (goal.at.returns-clause-left g t c).After-open_end-node).0 in
    let e = ap length c.put_child.ensures.pairs in
    let z = ap length (empty g t (goal.at.returns-clause-left g t c).After-take_spare).0 in
    let a = count_pushed _ _ _ c.push-2.ensures in
    let l = length_pushed _ _ _ c.push-2.ensures in
    let i = length_pushed _ _ _ c.take_spare.ensures.items in
    omega arith

pub returns-clause-used : goal.returns-clause-used
returns-clause-used g t c =
    let f = full g t (goal.at.returns-clause-used g t c).After-len c.if-len-lt-CAPACITY.false in
    let l = length_pushed _ _ _ c.take_spare.ensures.items in
    omega arith

pub returns-clause-short : goal.returns-clause-short
returns-clause-short g t c b long few =
    let f = full g t (goal.at.returns-clause-short g t c).After-len c.if-len-lt-CAPACITY.false in
    let s = c.attach.ensures.short (b - 1) (omega arith) (omega arith) in
    let l = length_pushed _ _ _ c.push-2.ensures in
    omega arith

pub returns-then-len-lt-CAPACITY-clause-blocks : goal.returns-then-len-lt-CAPACITY-clause-blocks
returns-then-len-lt-CAPACITY-clause-blocks g t c =
    let o = end g t (goal.at.returns-then-len-lt-CAPACITY-clause-blocks g t c).After-open_end-node in
    let child = put_blocks c.open_end-node.result _ c.args.subtree o.1 c.put_child.ensures.inner c.put_child.ensures.children in
    let pair = pair_blocks _ c.put_pair.new.node c.put_pair.ensures.children c.put_pair.ensures.leaf in
    let pushed = pushed_blocks _ _ _ c.push.ensures in
    omega (arith, child, pair, pushed, c.open_end-node.ensures.blocks)

pub returns-clause-blocks : goal.returns-clause-blocks
returns-clause-blocks g t c =
    let o = end g t (goal.at.returns-clause-blocks g t c).After-open_end-node in
    let child = put_blocks c.open_end-node.result _ c.args.subtree o.1 c.put_child.ensures.inner c.put_child.ensures.children in
    let spare = spare_blocks _ (empty g t (goal.at.returns-clause-blocks g t c).After-take_spare) in
    let one = length_pushed _ _ _ c.take_spare.ensures.items in
    let pushed = pushed_blocks _ _ _ c.push-2.ensures in
    omega (arith, child, spare, one, pushed, c.open_end-node.ensures.blocks, c.attach.ensures.blocks)
