use Rattle.std.proofs.Common.{◌≡◌, ℕ, ◌+◌, ◌-◌, ◌<◌, length, MatchOption, rules, ap, sym, subst, ◌∙◌, arith}
use Rattle.std.proofs.lemmas.List.Edits.{length-insert}
use Rattle.fc_base.specs.Sizes.{capacity}
use Rattle.fc_tree_node.specs.Node.{own_pairs, IsLevelled}
use Rattle.fc_tree_node.specs.Path.{IsPath}
use Rattle.fc_tree_node.proofs.PathSteps.{one_step, step_of}
use Rattle.fc_tree_node.proofs.Pairs.{child_below}
use Rattle.fc_tree_node.proofs.Made.{own_made}
use Rattle.fc_tree_node.proofs.Lent.{lent_is, replaced, replaced_levels}
use Rattle.fc_tree_insertion.proofs.InsertedPairs.{put_in_leaf, put_below, put_above}
use Rattle.fc_tree_insertion.proofs.InsertedLevels.{levelled_put, grown}
use Rattle.fc_tree_insertion.proofs.InsertedBlocks.{leaf_blocks, below_blocks, above_blocks}
use Rattle.fc_tree_insertion.proofs.Cascades.{IsCascadeStep, cascade_step, leaf_passed, above_halved, above_used, above_moves}
use Rattle.fc_tree_insertion.proofs.NewPairs.{led_below, led_above, led_leaf}
use Rattle.fc_tree_insertion.proofs.insertion.+insert_below.Given as given
use Rattle.fc_tree_insertion.proofs.insertion.+insert_below.Goals as goal
use Rattle.fc_tree_insertion.proofs.insertion.+insert_below.Goals.{After-child_in-child, After-put_inner}

pub returns-then-path-eq1-clause-pairs : goal.returns-then-path-eq1-clause-pairs
returns-then-path-eq1-clause-pairs g t c =
    let e : length c.args.path.now - 1 ≡ 0 = omega arith in
    let l = subst (λ h. IsLevelled h c.args.node.now) e c.requires.levels in
    let i = c.put_leaf.ensures in
    let o = one_step _ c.if-path-eq1.true in
    put_in_leaf c.args.path.now _ c.put_leaf.new.node c.put_leaf.result c.args.pair o l.1 i.leaf.0 i.leaf.1 i.pairs

pub returns-then-path-eq1-clause-led : goal.returns-then-path-eq1-clause-led
returns-then-path-eq1-clause-led g t c =
    let e : length c.args.path.now - 1 ≡ 0 = omega arith in
    let l = subst (λ h. IsLevelled h c.args.node.now) e c.requires.levels in
    let o = one_step _ c.if-path-eq1.true in
    let w = subst (λ p. IsPath p c.args.node.now) o c.requires.path in
    let i = c.put_leaf.ensures in
    led_leaf c.args.path.now _ c.put_leaf.new.node c.put_leaf.result c.args.pair o l.1 i.leaf.0 i.leaf.1 w.0 i.pairs i.halved i.left

pub returns-then-path-eq1-clause-blocks : goal.returns-then-path-eq1-clause-blocks
returns-then-path-eq1-clause-blocks g t c =
    let i = c.put_leaf.ensures in
    leaf_blocks c.args.path.now _ c.put_leaf.new.node c.put_leaf.result (one_step _ c.if-path-eq1.true) c.requires.levels i.leaf.0 i.leaf.1 i.halved

pub child_in-child-requires : goal.child_in-child-requires
child_in-child-requires g t c = let s = step_of c.args.path.now c.args.node.now (omega arith) c.requires.path c.requires.levels in omega (arith, s.inner, s.le)

-- the child that the path leads to
down : (g : given.Over) (t : ℕ) (c : After-child_in-child g t) → IsCascadeStep c.args.path.now c.args.node.now c.child_in-child.result.now
down g t c =
    let s = step_of c.args.path.now c.args.node.now (omega arith) c.requires.path c.requires.levels in
    cascade_step _ _ _ s (lent_is _ _ _ s.inner s.le c.child_in-child.ensures.value)

pub insert_below-below-requires : goal.insert_below-below-requires
insert_below-below-requires g t c κs within =
    let k = down g t (goal.at.insert_below-below-requires g t c).After-child_in-child in
    let s = k.step in
    let b = child_below _ c.args.node.now _ s.levels s.le in
    let path = subst (IsPath _) (sym k.is) s.onward in
    let levels = subst (IsLevelled _) (sym k.is) b.1 in
    (search rules, (search rules, (search rules, (search rules, (omega arith, (path, (levels, (leaf_passed _ k c.requires.leaf, omega arith))))))))

pub put_inner-requires : goal.put_inner-requires
put_inner-requires g t c =
    let k = down g t (goal.at.put_inner-requires g t c).After-child_in-child in
    let d = c.insert_below-below.new.node in
    let m = replaced c.args.node.now _ d in
    let full = k.full in
    record {
      in_bounds = omega arith;
      inner = m.inner k.step.inner;
      some = λ h.
          let e = full (omega arith) (omega (arith, c.in-Some.ensures.halved)) in
          omega (arith, c.insert_below-below.ensures.used);
    }

pub returns-in-None : goal.returns-in-None
returns-in-None g t c =
    let k = down g t (goal.at.returns-in-None g t c).After-child_in-child in
    let e = c.in-None.ensures in
    let d = c.insert_below-below.new.node in
    let m = replaced c.args.node.now _ d in
    let least = (child_below _ c.args.node.now _ k.step.levels k.step.le).0 in
    let q = ap (λ x. length (own_pairs x)) k.is in
    let part = k.part e.halved in
    record {
      pairs = put_below c.args.path.now _ _ _ _ c.args.pair k.step m k.is e.pairs;
      led = led_below k m e.halved e.led;
      levels = rw k.step.height (replaced_levels _ m k.step.levels (omega arith, e.levels.0), tt);
      size = omega (arith, m.size);
      halved = omega arith;
      used = omega arith;
      blocks = below_blocks c.args.path.now c.args.node.now _ _ d k m e.halved e.blocks;
      comparisons = search rules;
      moves = omega arith;
      moved = search rules;
    }

-- the node is halved where it was full
room : (g : given.Over) (t : ℕ) (c : After-put_inner g t)
    → MatchOption c.put_inner.result (length (own_pairs c.args.node.now) < capacity) (λ _. length (own_pairs c.args.node.now) ≡ capacity)
room g t c = subst (λ ps. MatchOption c.put_inner.result (length ps < capacity) (λ _. length ps ≡ capacity)) (own_made _) c.put_inner.ensures.halved

pub returns-in-Some : goal.returns-in-Some
returns-in-Some g t c =
    let at = goal.at.returns-in-Some g t c in
    let k = down g t at.After-child_in-child in
    let s = k.step in
    let d = c.insert_below-below.new.node in
    let m = replaced c.args.node.now _ d in
    let i = c.put_inner.ensures in
    let e = c.in-Some.ensures in
    let up = c.put_inner.result in
    let h = room g t at.After-put_inner in
    record {
      pairs = put_above c.args.path.now _ _ _ _ c.put_inner.new.node up c.in-Some.up c.args.pair c.in-Some.right s m k.is i.pairs i.children
          i.inner.0 i.inner.1 e.pairs;
      led = led_above c.put_inner.new.node up _ _ k m e.halved h i.pairs i.children i.inner.0 i.left e.led;
      levels = rw s.height (levelled_put _ c.args.node.now _ c.insert_below-below.new.node c.put_inner.new.node c.in-Some.right _ up s.levels m
          (e.size.0.0, e.levels.0) (e.size.1.0, e.levels.1) i.children i.inner.0 i.inner.1 i.size);
      size = grown c.put_inner.new.node up _ (ap length i.pairs ∙ length-insert _ _ c.in-Some.up (omega (arith, m.size)) ∙ ap (λ n. n + 1) m.size) i.size;
      halved = above_halved up k e.halved h;
      used = above_used up _ _ _ k e.halved h c.insert_below-below.ensures.used i.used;
      blocks = above_blocks c.args.path.now c.args.node.now _ c.put_inner.new.node _ d c.in-Some.right up (omega arith) k m i.children i.inner.0 i.inner.1
          e.halved h e.blocks;
      comparisons = search rules;
      moves = above_moves up _ _ _ k e.halved h e.moves i.moves;
      moved = search rules;
    }
