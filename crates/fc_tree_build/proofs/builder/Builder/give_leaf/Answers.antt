use Rattle.std.proofs.Common.{min, ◌+◌, ◌*◌, ◌≤◌, length, ap, arith, subst, sym}
use Rattle.std.specs.Prelude.{vec_capacity}
use Rattle.std.specs.List.{AllByRecursion}
use Rattle.fc_base.specs.Sizes.{most_children}
use Rattle.fc_tree_build.specs.Built.{room_after}
use Rattle.fc_tree_node.specs.Node.{IsEmptyLeaf}
use Rattle.fc_tree_node.proofs.Lists.{all_both}
use Rattle.fc_tree_build.proofs.SpineFacts.{length_pushed}
use Rattle.fc_tree_build.proofs.Builders.{kept_room, more_room, two_more, full_room}
use Rattle.fc_tree_build.proofs.builder.Builder.give_leaf.Goals as goal

pub invariant_of-self : goal.invariant_of-self
invariant_of-self g c =
    let s = c.self.inside in
    let i = c.self.invariant in
    let p = c.put_spare.ensures in
    let one = length_pushed _ _ _ p.items in
    let empty = subst (AllByRecursion (λ n. IsEmptyLeaf n)) (sym p.items) (all_both (λ n. IsEmptyLeaf n) s.leaves.items _ i.3 (c.requires, tt)) in
    (i.0, i.1, two_more s.last s.limit _ _ (vec_capacity s.leaves) _ one (omega (arith, p.capacity)) i.2, empty, i.4, i.5)

pub returns-then-len-capacity-clause-kept : goal.returns-then-len-capacity-clause-kept
returns-then-len-capacity-clause-kept g c =
    let s = c.self.inside in
    kept_room s.last s.limit _ (length s.leaves.items) _ (ap (λ b. b.room) c.self.view_is) (length_pushed _ _ _ c.put_spare.ensures.items)

pub returns-then-len-capacity-clause-room : goal.returns-then-len-capacity-clause-room
returns-then-len-capacity-clause-room g c =
    let s = c.self.inside in
    let now = c.args.self.now in
    subst (λ l. min l (min (now.room + most_children) (2 * most_children)) ≤ min s.limit (room_after s.last (length c.put_spare.new.spares.items)))
    (ap (λ b. b.limit) c.self.view_is)
    (more_room s.last s.limit now.room (length s.leaves.items) _ s.spine c.self.invariant.0 (ap (λ b. b.room) c.self.view_is)
    (length_pushed _ _ _ c.put_spare.ensures.items))

pub returns-else-len-capacity-clause-room : goal.returns-else-len-capacity-clause-room
returns-else-len-capacity-clause-room g c =
    let s = c.self.inside in
    let now = c.args.self.now in
    subst (λ l. min l (min (now.room + most_children) (2 * most_children)) ≤ now.room) (ap (λ b. b.limit) c.self.view_is)
    (full_room s.last s.limit now.room (length s.leaves.items) (vec_capacity s.leaves) s.spine c.self.invariant.0 (ap (λ b. b.room) c.self.view_is)
    (omega (arith, s.leaves.ok)) c.self.invariant.2)

pub returns-then-len-capacity-clause-blocks : goal.returns-then-len-capacity-clause-blocks
returns-then-len-capacity-clause-blocks g c =
    let view = ap (λ b. b.blocks) c.self.view_is in
    let one = length_pushed _ _ _ c.put_spare.ensures.items in
    omega (arith, view, one)

pub returns-else-len-capacity-clause-blocks : goal.returns-else-len-capacity-clause-blocks
returns-else-len-capacity-clause-blocks g c = omega arith
