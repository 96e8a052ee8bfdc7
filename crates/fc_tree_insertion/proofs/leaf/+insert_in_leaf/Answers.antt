use Rattle.std.proofs.Common.{◌≡◌, ℕ, ◌-◌, length, get_or, take, rules, ap, sym, subst, ◌∙◌, arith}
use Rattle.std.specs.List.{insert}
use Rattle.fc_tree_node.specs.Node.{own_pairs, child_at, IsLevelled}
use Rattle.fc_tree_node.specs.Path.{IsPath}
use Rattle.fc_tree_node.specs.Place.{node_at}
use Rattle.fc_tree_node.proofs.PathSteps.{IsStep, step_of}
use Rattle.fc_tree_node.proofs.BlockFacts.{replaced_blocks}
use Rattle.fc_tree_node.proofs.Pairs.{child_below}
use Rattle.fc_tree_node.proofs.Lent.{lent_is, replaced, replaced_levels}
use Rattle.fc_tree_insertion.proofs.InsertedPairs.{put_below}
use Rattle.fc_tree_insertion.proofs.NewPairs.{put_in_room_below}
use Rattle.fc_tree_insertion.proofs.Leaves.{leaf_below}
use Rattle.fc_tree_insertion.proofs.LentLeaves.{HasRoomAt, room_at, put_last, levels_last, size_last, blocks_last}
use Rattle.fc_tree_insertion.proofs.leaf.+insert_in_leaf.Given as given
use Rattle.fc_tree_insertion.proofs.leaf.+insert_in_leaf.Goals as goal
use Rattle.fc_tree_insertion.proofs.leaf.+insert_in_leaf.Goals.{Start, After-child_in-child, After-insert}

pub child_in-child-requires : goal.child_in-child-requires
child_in-child-requires g t c =
    let s = step_of c.args.path.now c.args.node.now (omega arith) c.requires.path c.requires.levels in
    omega (arith, s.inner, s.le)

-- the child that the path leads to
down : (g : given.Over) (t : ℕ) (c : After-child_in-child g t)
    → IsStep c.args.path.now c.args.node.now × (c.child_in-child.result.now ≡ child_at c.args.node.now (get_or c.args.path.now 0 0))
down g t c =
    let s = step_of c.args.path.now c.args.node.now (omega arith) c.requires.path c.requires.levels in
    (s, lent_is _ _ _ s.inner s.le c.child_in-child.ensures.value)

pub insert_in_leaf-requires : goal.insert_in_leaf-requires
insert_in_leaf-requires g t c κs within =
    let d = down g t (goal.at.insert_in_leaf-requires g t c).After-child_in-child in
    let s = d.0 in
    let b = child_below _ c.args.node.now _ s.levels s.le in
    let e = ap (λ n. length (own_pairs n)) (leaf_below c.args.path.now _ _ (omega arith) s d.1) in (
      search rules,
      (
        search rules,
        (
          search rules,
          (
            search rules,
            (omega arith, (subst (IsPath _) (sym d.1) s.onward, (subst (IsLevelled _) (sym d.1) b.1, omega arith))),
          ),
        ),
      ),
    )

pub returns-then-path-gt-MAX_STEPS-clause-blocks : goal.returns-then-path-gt-MAX_STEPS-clause-blocks
returns-then-path-gt-MAX_STEPS-clause-blocks g t c =
    let d = down g t (goal.at.returns-then-path-gt-MAX_STEPS-clause-blocks g t c).After-child_in-child in
    let m = replaced_blocks c.args.node.now _ _ c.insert_in_leaf.new.node _ (omega (arith, d.0.inner, d.0.le)) (replaced _ _ _) d.1 in
    omega (arith, m, c.insert_in_leaf.ensures.blocks)

pub returns-then-path-gt-MAX_STEPS-clause-pairs : goal.returns-then-path-gt-MAX_STEPS-clause-pairs
returns-then-path-gt-MAX_STEPS-clause-pairs g t c =
    let d = down g t (goal.at.returns-then-path-gt-MAX_STEPS-clause-pairs g t c).After-child_in-child in
    put_below c.args.path.now _ _ _ _ c.args.pair d.0 (replaced _ _ _) d.1 c.insert_in_leaf.ensures.pairs

pub returns-then-path-gt-MAX_STEPS-clause-levels : goal.returns-then-path-gt-MAX_STEPS-clause-levels
returns-then-path-gt-MAX_STEPS-clause-levels g t c =
    let d = down g t (goal.at.returns-then-path-gt-MAX_STEPS-clause-levels g t c).After-child_in-child in
    let s = d.0 in
    let b = child_below _ c.args.node.now _ s.levels s.le in
    let q = ap (λ x. length (own_pairs x)) d.1 in
    rw s.height (replaced_levels _ (replaced _ _ _) s.levels (omega arith, c.insert_in_leaf.ensures.levels))

pub returns-then-path-gt-MAX_STEPS-clause-place : goal.returns-then-path-gt-MAX_STEPS-clause-place
returns-then-path-gt-MAX_STEPS-clause-place g t c =
    let d = down g t (goal.at.returns-then-path-gt-MAX_STEPS-clause-place g t c).After-child_in-child in
    put_in_room_below c.args.path.now _ _ _ _ c.args.pair _ d.0 (replaced _ _ _) d.1 (returns-then-path-gt-MAX_STEPS-clause-levels g t c)
    (returns-then-path-gt-MAX_STEPS-clause-pairs g t c) c.insert_in_leaf.ensures.place

-- the leaf that the path ends in
end : (g : given.Over) (t : ℕ) (c : Start g t)
    → HasRoomAt (take (length c.args.path.now - 1) c.args.path.now) (get_or c.args.path.now (length c.args.path.now - 1) 0) c.args.node.now
end g t c =
    room_at c.args.path.now (length c.args.path.now - 1) c.args.node.now (let some = c.requires.some in omega (arith, some))
    c.requires.path c.requires.levels c.requires.room

pub pairs_mut-requires-clause-way : goal.pairs_mut-requires-clause-way
pairs_mut-requires-clause-way g t c = (end g t (goal.at.pairs_mut-requires-clause-way g t c).Start).descent

pub insert-requires : goal.insert-requires
insert-requires g t c =
    let r = end g t (goal.at.insert-requires g t c).Start in
    let same = ap length c.pairs_mut.ensures.value in
    (omega (arith, g.met.A.Handle.small, g.met.A.Handle.plain), (omega (arith, r.place, same), omega (arith, r.room, same)))

-- what stands in the leaf then
put : (g : given.Over) (t : ℕ) (c : After-insert g t) → c.insert.new.self ≡ insert (own_pairs (node_at (take (length c.args.path.now - 1) c.args.path.now)
    c.args.node.now)) (get_or c.args.path.now (length c.args.path.now - 1) 0) c.args.pair
put g t c = c.insert.ensures.items
    ∙ ap (λ qs. insert qs (get_or c.args.path.now (length c.args.path.now - 1) 0) c.args.pair) c.pairs_mut.ensures.value

pub returns-clause-pairs : goal.returns-clause-pairs
returns-clause-pairs g t c =
    let at = goal.at.returns-clause-pairs g t c in
    (put_last c.args.path.now _ c.args.node.now _ c.args.pair (omega arith) (end g t at.Start) (put g t at.After-insert)).pairs

pub returns-clause-place : goal.returns-clause-place
returns-clause-place g t c =
    let at = goal.at.returns-clause-place g t c in
    (put_last c.args.path.now _ c.args.node.now _ c.args.pair (omega arith) (end g t at.Start) (put g t at.After-insert)).place

pub returns-clause-levels : goal.returns-clause-levels
returns-clause-levels g t c =
    let at = goal.at.returns-clause-levels g t c in
    levels_last c.args.path.now _ c.args.node.now _ c.args.pair (omega arith) (end g t at.Start) (put g t at.After-insert)

pub returns-clause-blocks : goal.returns-clause-blocks
returns-clause-blocks g t c =
    let at = goal.at.returns-clause-blocks g t c in
    blocks_last c.args.path.now _ c.args.node.now _ c.args.pair (omega arith) (end g t at.Start) (put g t at.After-insert)

pub returns-clause-size : goal.returns-clause-size
returns-clause-size g t c =
    let at = goal.at.returns-clause-size g t c in
    size_last c.args.path.now _ c.args.node.now _ c.args.pair (omega arith) (end g t at.Start) (put g t at.After-insert)

pub returns-clause-moves : goal.returns-clause-moves
returns-clause-moves g t c =
    let r = end g t (goal.at.returns-clause-moves g t c).Start in
    let same = ap length c.pairs_mut.ensures.value in
    omega (arith, c.insert.ensures.moves, same, r.room)
