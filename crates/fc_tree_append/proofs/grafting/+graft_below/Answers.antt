use Rattle.std.proofs.Common.{◌≡◌, ℕ, suc, ◌+◌, ◌-◌, ◌<◌, ◌≤◌, length, rules, sym, subst, arith, Some}
use Rattle.fc_base.specs.Sizes.{min_len}
use Rattle.fc_tree_node.specs.Node.{own_pairs, child_at, pairs_of, IsLevelled, IsSound}
use Rattle.fc_tree_node.proofs.Lent.{lent_is, replaced}
use Rattle.fc_tree_append.specs.Grafted.{IsGrafted}
use Rattle.fc_tree_append.proofs.GraftedFacts.{placed_pairs, placed_levels, IsOnBorder, on_border, stay_pairs, stay_levels, put_pairs, put_levels, used_most}
use Rattle.fc_tree_node.proofs.BlockFacts.{replaced_blocks}
use Rattle.fc_tree_append.proofs.JoinedBlocks.{beside_blocks, taken_in}
use Rattle.fc_tree_append.proofs.grafting.+graft_below.Given as given
use Rattle.fc_tree_append.proofs.grafting.+graft_below.Goals as goal
use Rattle.fc_tree_append.proofs.grafting.+graft_below.Goals.{After-border_child-place, After-child_in-child}

-- the level of the node, and of its children
deeper : (g : given.Over) (t : ℕ) (c : goal.After-border_child-place g t) (h : ℕ) → c.args.depth + h ≡ suc (c.args.depth - 1 + h)
deeper g t c h = omega arith

-- the child on the border of the node
on : (g : given.Over) (t : ℕ) (c : goal.After-border_child-place g t) (h : ℕ) → IsLevelled (c.args.depth + h) c.args.node.now
    → IsOnBorder c.args.side (c.args.depth - 1 + h) c.args.node.now c.border_child-place.result
on g t c h l = on_border c.args.side _ _ _ (subst (λ k. IsLevelled k c.args.node.now) (deeper g t c h) l) c.border_child-place.ensures.value

-- is what was lent out
lent : (g : given.Over) (t : ℕ) (c : goal.After-child_in-child g t) (b : ℕ) → IsOnBorder c.args.side b c.args.node.now c.border_child-place.result
    → c.child_in-child.result.now ≡ child_at c.args.node.now c.border_child-place.result
lent g t c b on = lent_is c.args.node.now c.border_child-place.result _ on.levels.1 on.le c.child_in-child.ensures.value

pub returns-then-depth-eq0-clause-pairs : goal.returns-then-depth-eq0-clause-pairs
returns-then-depth-eq0-clause-pairs g t c =
    placed_pairs c.args.side c.args.node.now c.args.other c.put_beside.new.node c.put_beside.result c.args.pair c.put_beside.ensures

pub returns-then-depth-eq0-clause-levels : goal.returns-then-depth-eq0-clause-levels
returns-then-depth-eq0-clause-levels g t c h l o =
    let none : c.args.depth ≡ 0 = omega arith in
    let same : c.args.depth + h ≡ h = omega arith in
    let sound : IsSound h c.args.node.now = (c.requires.some none, subst (λ k. IsLevelled k c.args.node.now) same l) in
    subst (λ k. IsGrafted c.args.side k c.put_beside.new.node (Some (c.args.pair, c.put_beside.result))) (sym same)
    (placed_levels c.args.side h c.args.node.now c.args.other c.put_beside.new.node c.put_beside.result c.put_beside.ensures sound o)

pub child_in-child-requires : goal.child_in-child-requires
child_in-child-requires g t c =
    let o = on g t (goal.at.child_in-child-requires g t c).After-border_child-place c.requires.levels.0 c.requires.levels.1 in
    omega (arith, o.levels.1, o.le)

pub graft_below-below-requires : goal.graft_below-below-requires
graft_below-below-requires g t c κs within =
    let l = c.requires.levels in
    let o = on g t (goal.at.graft_below-below-requires g t c).After-border_child-place l.0 l.1 in
    let ci = sym (lent g t (goal.at.graft_below-below-requires g t c).After-child_in-child _ o) in
    let falls : c.args.depth - 1 < c.args.depth = omega arith in
    let some = subst (λ k. min_len ≤ length (own_pairs k)) ci o.child.0 in
    (search rules, (search rules, (search rules, (search rules, ((l.0, subst (IsLevelled _) ci o.child.1, l.2), ((λ _. some), omega arith))))))

pub put_inner-requires : goal.put_inner-requires
put_inner-requires g t c =
    let o = on g t (goal.at.put_inner-requires g t c).After-border_child-place c.requires.levels.0 c.requires.levels.1 in
    let m = replaced c.args.node.now c.border_child-place.result c.graft_below-below.new.node in
    record { in_bounds = omega arith; inner = m.inner o.levels.1; some = λ _. omega arith }

pub returns-in-None-clause-pairs : goal.returns-in-None-clause-pairs
returns-in-None-clause-pairs g t c =
    let o = on g t (goal.at.returns-in-None-clause-pairs g t c).After-border_child-place c.requires.levels.0 c.requires.levels.1 in
    let ci = lent g t (goal.at.returns-in-None-clause-pairs g t c).After-child_in-child _ o in
    stay_pairs c.args.side _ _ _ c.graft_below-below.new.node _ o (replaced _ _ _) c.args.pair (pairs_of c.args.other)
    (rw ci at c.in-None.ensures.pairs)

pub returns-in-None-clause-levels : goal.returns-in-None-clause-levels
returns-in-None-clause-levels g t c h l k =
    let b = (goal.at.returns-in-None-clause-levels g t c).After-border_child-place in
    let o = on g t b h l in
    let ci = lent g t (goal.at.returns-in-None-clause-levels g t c).After-child_in-child _ o in
    rw (deeper g t b h) (stay_levels c.args.side _ _ _ c.graft_below-below.new.node _ o (replaced _ _ _)
    (c.in-None.ensures.levels h (subst (IsLevelled _) (sym ci) o.child.1) k))

pub returns-in-Some-clause-pairs : goal.returns-in-Some-clause-pairs
returns-in-Some-clause-pairs g t c =
    let o = on g t (goal.at.returns-in-Some-clause-pairs g t c).After-border_child-place c.requires.levels.0 c.requires.levels.1 in
    let ci = lent g t (goal.at.returns-in-Some-clause-pairs g t c).After-child_in-child _ o in
    let p = c.put_inner.ensures in
    put_pairs c.args.side _ _ _ c.graft_below-below.new.node _ o (replaced _ _ _) c.args.pair (pairs_of c.args.other) c.put_inner.new.node
    c.in-Some.right c.put_inner.result c.in-Some.up p.pairs p.children p.inner.0 p.inner.1 (rw ci at c.in-Some.ensures.pairs)

pub returns-in-Some-clause-levels : goal.returns-in-Some-clause-levels
returns-in-Some-clause-levels g t c h l k =
    let b = (goal.at.returns-in-Some-clause-levels g t c).After-border_child-place in
    let o = on g t b h l in
    let ci = lent g t (goal.at.returns-in-Some-clause-levels g t c).After-child_in-child _ o in
    let grafted = c.in-Some.ensures.levels h (subst (IsLevelled _) (sym ci) o.child.1) k in
    let p = c.put_inner.ensures in
    rw (deeper g t b h) (put_levels c.args.side _ _ _ c.graft_below-below.new.node _ o (replaced _ _ _) c.put_inner.new.node
    c.in-Some.right c.put_inner.result c.in-Some.up grafted p.children p.inner.0 p.inner.1 p.size)

pub returns-in-Some-clause-spares : goal.returns-in-Some-clause-spares
returns-in-Some-clause-spares g t c =
    let most = used_most c.put_inner.result _ _ c.put_inner.ensures.used in
    omega arith

pub returns-then-depth-eq0-clause-blocks : goal.returns-then-depth-eq0-clause-blocks
returns-then-depth-eq0-clause-blocks g t c =
    omega (arith, beside_blocks c.args.side c.args.node.now c.args.other c.put_beside.new.node c.put_beside.result c.put_beside.ensures)

pub returns-in-None-clause-blocks : goal.returns-in-None-clause-blocks
returns-in-None-clause-blocks g t c =
    let o = on g t (goal.at.returns-in-None-clause-blocks g t c).After-border_child-place c.requires.levels.0 c.requires.levels.1 in
    let ci = lent g t (goal.at.returns-in-None-clause-blocks g t c).After-child_in-child _ o in
    let d = c.graft_below-below.new.node in
    let r = replaced_blocks c.args.node.now _ c.child_in-child.result.now d c.border_child-place.result o.there (replaced _ _ _) ci in
    let below = c.in-None.ensures in
    omega (arith, r, below.blocks)

pub returns-in-Some-clause-blocks : goal.returns-in-Some-clause-blocks
returns-in-Some-clause-blocks g t c =
    let o = on g t (goal.at.returns-in-Some-clause-blocks g t c).After-border_child-place c.requires.levels.0 c.requires.levels.1 in
    let ci = lent g t (goal.at.returns-in-Some-clause-blocks g t c).After-child_in-child _ o in
    let m = replaced c.args.node.now c.border_child-place.result c.graft_below-below.new.node in
    let r = replaced_blocks c.args.node.now _ c.child_in-child.result.now c.graft_below-below.new.node c.border_child-place.result o.there m ci in
    let p = c.put_inner.ensures in
    let b = taken_in _ c.put_inner.new.node c.in-Some.right c.put_inner.result _ _ _ (m.inner o.levels.1) p.children p.inner.0 p.inner.1 p.used in
    omega (arith, r, b, c.in-Some.ensures.blocks)
