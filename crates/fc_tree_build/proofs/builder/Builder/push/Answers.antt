use Rattle.std.proofs.Common.{◌≡◌, ◌-◌, ◌<◌, ◌≤◌, ◌⊎◌, length, Some, refl, sym, ap, ◌∙◌, subst, min, arith}
use Rattle.std.specs.Prelude.{vec_capacity}
use denote.Param.{param}
use Rattle.fc_base.specs.Sizes.{capacity, most_height}
use Rattle.fc_tree_drain.proofs.Sizes.{nodes_fit}
use Rattle.fc_tree_node.specs.Node.{own_pairs}
use Rattle.fc_tree_build.specs.Spares.{IsEnough}
use Rattle.fc_tree_build.specs.Built.{IsLast, room_after, leaves_after}
use Rattle.fc_tree_build.proofs.SpineFacts.{length_pushed, enough_needed, enough_left}
use Rattle.fc_tree_build.proofs.Builders.{leaf_taken, last_is, leaf_sound, push_pairs, all_built, put_last, one_less, some_room, less_room}
use Rattle.fc_tree_build.proofs.Builders.{next_room, next_leaves, put_room_after, put_leaves, still_enough}
use Rattle.fc_tree_build.proofs.GrownFacts.{put_pairs}
use Rattle.fc_tree_node.specs.Blocks.{blocks_in}
use Rattle.fc_tree_node.proofs.BlockFacts.{blocks_leaf}
use Rattle.fc_tree_build.proofs.BuiltBlocks.{pair_blocks}
use Rattle.fc_tree_build.proofs.builder.Builder.push.Given as given
use Rattle.fc_tree_build.proofs.builder.Builder.push.Goals as goal
use Rattle.fc_tree_build.proofs.builder.Builder.push.Goals.{In-Some}

-- the last leaf, room after it, and the inner nodes for all leaves to come
last : (g : given.Over) (c : goal.In-Some g) → IsLast (Some c.in-Some.last) c.self.inside.limit c.self.inside.spine
    × ((0 < c.self.inside.limit) × (0 < room_after (Some c.in-Some.last) (length c.self.inside.leaves.items)))
    × IsEnough (length c.self.inside.inner.items) (leaves_after (Some c.in-Some.last) c.self.inside.limit) c.self.inside.spine
last g c =
    let s = c.self.inside in
    let i = c.self.invariant in
    let some = some_room s.limit _ _ (ap (λ b. b.room) c.self.view_is) c.requires in (
      last_is s.last c.in-Some.last _ _ c.in-Some.is i.0,
      (some.0, subst (λ o. 0 < room_after o (length s.leaves.items)) c.in-Some.is some.1),
      subst (λ o. IsEnough (length s.inner.items) (leaves_after o s.limit) s.spine) c.in-Some.is i.5,
    )

pub attach-requires : goal.attach-requires
attach-requires g c =
    let i = c.self.invariant in
    let l = last g (goal.at.attach-requires g c).In-Some in
    let few = l.0.0 in
    let n = enough_needed 0 _ (leaves_after (Some c.in-Some.last) c.self.inside.limit) _ i.1 (omega (arith, l.1)) l.2 in
    let fits = nodes_fit (param 0 g.row.K) (param 1 g.row.V) g.row.A g.A.Allocator g.met.A.Handle.small in
    rw c.replace-full.ensures.value (fits, ((0, i.1, leaf_sound _ few l.0.1 (omega arith)), (i.4, (n.0, (most_height, omega arith, l.2.0, n.1)))))

pub invariant_of-self-2 : goal.invariant_of-self-2
invariant_of-self-2 g c =
    let s = c.self.inside in
    let i = c.self.invariant in
    let l = last g (goal.at.invariant_of-self-2 g c).In-Some in
    let leaf = c.in-Some.last in
    let few = l.0.0 in
    let t = leaf_taken _ _ _ c.take_spare.ensures.items i.3 in
    let one = one_less s.limit l.1.0 in
    let empty = c.take_spare.result in
    let full : capacity ≤ length (own_pairs leaf) = omega arith in
    let q = next_leaves leaf empty s.limit (s.limit - 1) few full t.0.0 one in
    let room = next_room leaf empty _ _ few full t.0.0 (length_pushed _ _ _ c.take_spare.ensures.items) in
    let z = ap length t.0.0 in
    let a = rw c.replace-full.ensures.value at c.attach.ensures in
    let n = enough_needed 0 _ (leaves_after (Some leaf) s.limit) _ i.1 (omega (arith, l.1)) l.2 in
    let e = enough_left 0 _ _ _ _ s.spine _ i.1 l.2 q (a.short most_height l.2.0 n.1) a.worth a.used a.short in
    let further = subst (λ o. (2 ≤ vec_capacity s.leaves) ⊎ (s.limit ≤ room_after o (length s.leaves.items))) c.in-Some.is i.2 in
    let two = still_enough _ s.limit _ (s.limit - 1) _ _ c.take_spare.ensures.capacity one room further in
    rw c.replace-full.ensures.after ((omega arith, t.0.1), a.levels 0 i.1 (leaf_sound _ few l.0.1 (omega arith)), two, t.1, a.empty, e)

pub returns-clause-pairs : goal.returns-clause-pairs
returns-clause-pairs g c =
    let l = last g (goal.at.returns-clause-pairs g c).In-Some in
    let empty = (leaf_taken _ _ _ c.take_spare.ensures.items c.self.invariant.3).0.0 in
    let same = ap (λ b. b.pairs) c.self.view_is in
    let more = rw c.replace-full.ensures.value at c.attach.ensures.pairs in
    rw c.replace-full.ensures.after (push_pairs c.self.inside.spine _ _ _ c.in-Some.last c.args.pair _ c.in-Some.is l.0.1 empty same more)

pub invariant_of-self : goal.invariant_of-self
invariant_of-self g c =
    let s = c.self.inside in
    let i = c.self.invariant in
    let l = last g (goal.at.invariant_of-self g c).In-Some in
    let leaf = c.in-Some.last in
    let new = c.put_pair.new.node in
    let pairs = c.put_pair.ensures.pairs in
    let few = subst (λ n. n < capacity) c.len.ensures.value c.if-len-lt-CAPACITY.true in
    let one = one_less s.limit l.1.0 in
    let list = vec_capacity s.leaves in
    let room = put_room_after leaf new c.args.pair (length s.leaves.items) few pairs in
    let enough = subst (λ o. (2 ≤ vec_capacity s.leaves) ⊎ (s.limit ≤ room_after o (length s.leaves.items))) c.in-Some.is i.2 in (
      put_last leaf new c.args.pair s.limit (s.limit - 1) s.spine l.0 few pairs c.put_pair.ensures.leaf,
      i.1,
      still_enough list s.limit _ (s.limit - 1) _ list refl one room enough,
      i.3,
      i.4,
      subst (λ n. IsEnough (length s.inner.items) n s.spine) (put_leaves leaf new c.args.pair s.limit (s.limit - 1) pairs one) l.2,
    )

pub returns-then-len-lt-CAPACITY-clause-pairs : goal.returns-then-len-lt-CAPACITY-clause-pairs
returns-then-len-lt-CAPACITY-clause-pairs g c =
    put_pairs c.self.inside.spine c.in-Some.last c.put_pair.new.node c.args.pair c.args.self.now.pairs c.put_pair.ensures.pairs
    (all_built c.self.inside.last c.in-Some.last c.self.inside.spine _ c.in-Some.is (ap (λ b. b.pairs) c.self.view_is))

-- the room that there was, after the last leaf
before : (g : given.Over) (c : goal.In-Some g)
    → min c.self.inside.limit (room_after (Some c.in-Some.last) (length c.self.inside.leaves.items)) ≡ c.args.self.now.room
before g c =
    let s = c.self.inside in
    ap (λ o. min s.limit (room_after o (length s.leaves.items))) (sym c.in-Some.is) ∙ ap (λ b. b.room) c.self.view_is

pub returns-then-len-lt-CAPACITY-clause-room : goal.returns-then-len-lt-CAPACITY-clause-room
returns-then-len-lt-CAPACITY-clause-room g c =
    let s = c.self.inside in
    let at = (goal.at.returns-then-len-lt-CAPACITY-clause-room g c).In-Some in
    let l = last g at in
    let new = c.put_pair.new.node in
    let few = subst (λ n. n < capacity) c.len.ensures.value c.if-len-lt-CAPACITY.true in
    let room = put_room_after c.in-Some.last new c.args.pair (length s.leaves.items) few c.put_pair.ensures.pairs in
    less_room s.limit _ (s.limit - 1) (room_after (Some new) (length s.leaves.items)) (one_less s.limit l.1.0) room ∙ before g at

pub returns-clause-room : goal.returns-clause-room
returns-clause-room g c =
    let s = c.self.inside in
    let at = (goal.at.returns-clause-room g c).In-Some in
    let l = last g at in
    let leaf = c.in-Some.last in
    let empty = (leaf_taken _ _ _ c.take_spare.ensures.items c.self.invariant.3).0.0 in
    let spares = c.take_spare.new.spares.items in
    let room = next_room leaf c.take_spare.result _ (length spares) l.0.0 (omega arith) empty (length_pushed _ _ _ c.take_spare.ensures.items) in
    rw c.replace-full.ensures.after
    (less_room s.limit _ (s.limit - 1) (room_after (Some c.take_spare.result) (length spares)) (one_less s.limit l.1.0) room ∙ before g at)

pub returns-then-len-lt-CAPACITY-clause-blocks : goal.returns-then-len-lt-CAPACITY-clause-blocks
returns-then-len-lt-CAPACITY-clause-blocks g c =
    let view = ap (λ b. b.blocks) c.self.view_is in
    let was = ap (λ o. blocks_in o) c.in-Some.is in
    let same = pair_blocks c.in-Some.last c.put_pair.new.node c.put_pair.ensures.children c.put_pair.ensures.leaf in
    omega (arith, view, was, same)

pub returns-clause-blocks : goal.returns-clause-blocks
returns-clause-blocks g c =
    let view = ap (λ b. b.blocks) c.self.view_is in
    let was = ap (λ o. blocks_in o) c.in-Some.is in
    let one = length_pushed _ _ _ c.take_spare.ensures.items in
    let empty = blocks_leaf c.take_spare.result (leaf_taken _ _ _ c.take_spare.ensures.items c.self.invariant.3).0.1 in
    let put = rw c.replace-full.ensures.value at c.attach.ensures.blocks in
    rw c.replace-full.ensures.after (omega (arith, view, was, one, empty, put))
