use Rattle.std.proofs.Common.{◌≡◌, ℕ, suc, ◌+◌, ◌<◌, ◌≤◌, [], length, get_or, rules, arith, sym, ap, subst, ◌∙◌}
use Rattle.std.proofs.lemmas.Bool.{false≢true}
use Rattle.fc_tree_node.specs.declared.node.Node.{Node}
use Rattle.fc_tree_search.specs.Written.{with_child}
use Rattle.fc_tree_node.specs.Node.{own_pairs, child_at, IsInner, IsLeaf, IsLevelled}
use Rattle.fc_tree_node.proofs.Lent.{IsReplaced, replaced, lent_is}
use Rattle.fc_tree_removal.proofs.Removed.{none_leaf}
use Rattle.fc_tree_node.specs.Measures.{height_of}
use Rattle.fc_tree_node.proofs.MeasureFacts.{levelled_height}
use Rattle.fc_tree_retain.specs.Rebalancing.{IsUnderfull}
use Rattle.fc_tree_retain.specs.Filtered.{FiltersPair}
use Rattle.fc_tree_cursor.specs.Ends.{AreInOrder, IsEnd}
use Rattle.fc_tree_cursor.proofs.PathEnds.{ends_order, end_inside, order_open}
use Rattle.fc_tree_retain.specs.Stretch.{IsRangeFiltered}
use Rattle.fc_tree_retain.proofs.Stretching.{AreEnds, ends_above, level_above, leaf_stretch, seam_stretch, IsStretching}
use Rattle.fc_tree_retain.proofs.Stretching.{
  stretching_start,
  stretching_lent,
  stretching_onward,
  stretching_back,
  stretching_order,
  back_underfull,
  back_sizes,
}
use Rattle.fc_tree_retain.proofs.Stretching.{stretching_more, stretching_filtered, stretching_underfull}
use Rattle.fc_tree_retain.proofs.within.+filter_range.Given as given
use Rattle.fc_tree_retain.proofs.within.+filter_range.Goals as goal
use Rattle.fc_tree_retain.proofs.within.+filter_range.Goals.{Else-is_leaf, After-child_in, After-filter_range}
use Rattle.fc_tree_retain.proofs.within.+filter_range.Goals.{After-child_in-2, After-filter_range-2, After-loop}

ends : (g : given.Over) (t : ℕ) (c : Else-is_leaf g t)
    → AreEnds c.requires.ends.0 c.args.front.now c.args.back.now c.args.node.now c.split_step-start.result.0 c.split_step-end.result.0
ends g t c = ends_above c.requires.ends.0 c.args.front.now c.args.back.now c.args.node.now _ _ _ (λ l. false≢true (c.if-is_leaf.ensures.1 l))
    c.requires.ends.1 c.requires.ends.2 c.requires.ends.3 c.requires.order c.split_step-start.ensures.first c.split_step-end.ensures.first c.len.ensures.value

lent : (g : given.Over) (t : ℕ) (c : After-child_in g t) → c.child_in.result.now ≡ child_at c.loop.node c.loop.at
lent g t c =
    let l = stretching_lent (FiltersPair g.S.Filter.asked g.S.Filter.given) _ _ _ _ _ _ _ _ _ c.loop.invariant.at in
    lent_is c.loop.node c.loop.at _ l.inner l.bounds c.child_in.ensures.value

lent_last : (g : given.Over) (t : ℕ) (c : After-child_in-2 g t) → c.child_in-2.result.now ≡ child_at c.loop.node c.loop.at
lent_last g t c =
    let l = stretching_lent (FiltersPair g.S.Filter.asked g.S.Filter.given) _ _ _ _ _ _ _ _ _ c.loop.invariant.at in
    lent_is c.loop.node c.loop.at _ l.inner l.bounds c.child_in-2.ensures.value

-- the node, whose child came back
abbrev left : (g : given.Over) (t : ℕ) → After-filter_range g t → Node g.row.K.Denot g.row.V.Denot g.row.A.Denot
left g t c = with_child c.loop.node c.loop.at c.filter_range.new.node

came : (g : given.Over) (t : ℕ) (c : After-filter_range g t) → IsReplaced c.loop.node (left g t c) c.loop.at c.filter_range.new.node
came g t c = replaced c.loop.node c.loop.at c.filter_range.new.node

abbrev left_last : (g : given.Over) (t : ℕ) → After-filter_range-2 g t → Node g.row.K.Denot g.row.V.Denot g.row.A.Denot
left_last g t c =
    with_child c.loop.node c.loop.at c.filter_range-2.new.node

came_last : (g : given.Over) (t : ℕ) (c : After-filter_range-2 g t) → IsReplaced c.loop.node (left_last g t c) c.loop.at c.filter_range-2.new.node
came_last g t c = replaced c.loop.node c.loop.at c.filter_range-2.new.node

sizes : (g : given.Over) (t : ℕ) (c : After-filter_range g t) → c.child_in.result.now ≡ child_at c.loop.node c.loop.at → IsInner (left g t c)
    × (c.loop.at ≤ length (own_pairs (left g t c))) × (length (own_pairs (left g t c)) + c.loop.counter ≡ length (own_pairs c.args.node.now) + c.loop.at)
sizes g t c l =
    back_sizes (FiltersPair g.S.Filter.asked g.S.Filter.given) _ _ _ _ _ _ _ _ _ c.loop.invariant.at _ _ _ l (came g t c) c.filter_range.ensures.underfull

at_end : (g : given.Over) (t : ℕ) (c : After-loop g t) → c.loop.counter ≡ c.split_step-end.result.0
at_end g t c =
    omega arith

pub loop-init : goal.loop-init
loop-init g t c =
    let R = FiltersPair g.S.Filter.asked g.S.Filter.given in
    let n = c.args.node.now in
    let i = c.split_step-start.result.0 in
    let e = ends g t (goal.at.loop-init g t c).Else-is_leaf in
    let order = e.order in
    record {
      callable = c.requires.callable;
      end = e.order;
      at = subst (λ p. IsStretching R c.args.filter.now c.args.filter.now c.args.front.now n n p i i i) (sym c.split_step-start.ensures.rest)
          (stretching_start R c.args.filter.now c.args.front.now n i e.levels.1 (omega arith) e.first);
    }

pub filter_range-requires : goal.filter_range-requires
filter_range-requires g t c κs within =
    let w = goal.at.filter_range-requires g t c in
    let e = ends g t w.Else-is_leaf in
    let o = stretching_onward (FiltersPair g.S.Filter.asked g.S.Filter.given) _ _ _ _ _ _ _ _ _ c.loop.invariant.at e.below c.child_in.result.now e.levels
    e.front_end e.first (lent g t w.After-child_in) in
    let x = levelled_height (suc e.below) c.args.node.now e.levels in
    let y = levelled_height e.below c.child_in.result.now o.0 in
    let falls : height_of c.child_in.result.now < height_of c.args.node.now = omega arith in
    let none : IsEnd e.below [] c.child_in.result.now = (tt, λ q. absurd (omega arith)) in (
      omega (arith, falls, c.decreases),
      (search rules, (search rules, (search rules, (search rules, ((e.below, o.0, o.1, none), (order_open _, c.loop.invariant.callable)))))),
    )

pub filter_separator-at-requires-clause-child : goal.filter_separator-at-requires-clause-child
filter_separator-at-requires-clause-child g t c =
    let w = goal.at.filter_separator-at-requires-clause-child g t c in
    let e = ends g t w.Else-is_leaf in
    let R = FiltersPair g.S.Filter.asked g.S.Filter.given in
    let l = lent g t w.After-child_in in
    (e.below, back_underfull R _ _ _ _ _ _ _ _ _ c.loop.invariant.at _ _ _ l (came g t w.After-filter_range) c.filter_range.ensures.underfull e.below e.levels)

pub filter_separator-at-requires-clause-fits : goal.filter_separator-at-requires-clause-fits
filter_separator-at-requires-clause-fits g t c =
    let w = goal.at.filter_separator-at-requires-clause-fits g t c in
    let fits = (ends g t w.Else-is_leaf).levels.0 in
    let z = (sizes g t w.After-filter_range (lent g t w.After-child_in)).2 in
    omega arith

pub filter_separator-at-requires-clause-inside : goal.filter_separator-at-requires-clause-inside
filter_separator-at-requires-clause-inside g t c =
    let w = goal.at.filter_separator-at-requires-clause-inside g t c in
    let inside = (ends g t w.Else-is_leaf).inside in
    let z = (sizes g t w.After-filter_range (lent g t w.After-child_in)).2 in
    omega arith

pub filter_separator-at-requires-clause-inner : goal.filter_separator-at-requires-clause-inner
filter_separator-at-requires-clause-inner g t c =
    let w = goal.at.filter_separator-at-requires-clause-inner g t c in
    (sizes g t w.After-filter_range (lent g t w.After-child_in)).0

pub loop-preserved : goal.loop-preserved
loop-preserved g t c =
    let w = goal.at.loop-preserved g t c in
    let inside = (ends g t w.Else-is_leaf).inside in
    record {
      callable = c.filter_separator-at.ensures.callable;
      end = omega arith;
      at = stretching_more (FiltersPair g.S.Filter.asked g.S.Filter.given) _ _ _ _ _ _ _ _ _ c.loop.invariant.at _ _ _ (lent g t w.After-child_in)
          (came g t w.After-filter_range) c.filter_range.ensures.underfull c.filter_range.new.filter c.filter_separator-at.new.filter
          c.filter_separator-at.new.node
          c.filter_separator-at.result (omega arith) c.filter_range.ensures.filtered c.filter_separator-at.ensures.passed;
    }

pub filter_range-requires-2 : goal.filter_range-requires-2
filter_range-requires-2 g t c κs within =
    let R = FiltersPair g.S.Filter.asked g.S.Filter.given in
    let w = goal.at.filter_range-requires-2 g t c in
    let d = c.child_in-2.result.now in
    let back = c.args.back.now in
    let e = ends g t w.Else-is_leaf in
    let l = lent_last g t w.After-child_in-2 in
    let m = at_end g t w.After-loop ∙ e.last in
    let o = stretching_onward R _ _ _ _ _ _ _ _ _ c.loop.invariant.at e.below d e.levels e.front_end e.first l in
    let b = stretching_back R _ _ _ _ _ _ _ _ _ c.loop.invariant.at e.below _ d back e.back_end m l in
    let order = stretching_order R _ _ _ _ _ _ _ _ _ c.loop.invariant.at back _ c.requires.order e.first m in
    let x = levelled_height (suc e.below) c.args.node.now e.levels in
    let y = levelled_height e.below d o.0 in
    let falls : height_of d < height_of c.args.node.now = omega arith in
    let b' = subst (λ p. IsEnd e.below p d) (sym c.split_step-end.ensures.rest) b in
    let order' = subst (AreInOrder c.loop.front_rest.now) (sym c.split_step-end.ensures.rest) order in (
      omega (arith, falls, c.decreases),
      (search rules, (search rules, (search rules, (search rules, ((e.below, o.0, o.1, b'), (order', c.loop.invariant.callable)))))),
    )

pub rebalance_between-requires : goal.rebalance_between-requires
rebalance_between-requires g t c =
    let w = goal.at.rebalance_between-requires g t c in
    let e = ends g t w.Else-is_leaf in (
      e.below,
      stretching_underfull (FiltersPair g.S.Filter.asked g.S.Filter.given) _ _ _ _ _ _ _ _ _ c.loop.invariant.at _ _ _
          (lent_last g t w.After-child_in-2) (came_last g t w.After-filter_range-2) c.filter_range-2.ensures.underfull e.below e.levels,
    )

pub returns-then-is_leaf-clause-underfull : goal.returns-then-is_leaf-clause-underfull
returns-then-is_leaf-clause-underfull g t c h l =
    let z = none_leaf h c.args.node.now (c.if-is_leaf.ensures.0 (search rules)) l in
    subst (λ k. IsUnderfull k c.filter_leaf_range.new.node) (sym z) c.filter_leaf_range.ensures.unbalanced

pub returns-then-is_leaf-clause-filtered : goal.returns-then-is_leaf-clause-filtered
returns-then-is_leaf-clause-filtered g t c =
    leaf_stretch (FiltersPair g.S.Filter.asked g.S.Filter.given) c.requires.ends.0 _ _ c.args.front.now c.args.back.now _ _ c.args.node.now _
    (c.if-is_leaf.ensures.0 (search rules)) c.filter_leaf_range.ensures.unbalanced.1 c.requires.ends.1 c.requires.ends.2 c.requires.ends.3
    c.split_step-start.ensures.first
    (c.split_step-end.ensures.first ∙ ap (get_or c.args.back.now 0) c.len.ensures.value) c.filter_leaf_range.ensures.filtered

pub filter_leaf_range-requires-clause-leaf : goal.filter_leaf_range-requires-clause-leaf
filter_leaf_range-requires-clause-leaf g t c =
    let n = c.args.node.now in
    let z = none_leaf c.requires.ends.0 n (c.if-is_leaf.ensures.0 (search rules)) c.requires.ends.1 in
    subst (λ k. IsLevelled k n) z c.requires.ends.1

pub filter_leaf_range-requires-clause-order : goal.filter_leaf_range-requires-clause-order
filter_leaf_range-requires-clause-order g t c =
    let n = c.args.node.now in
    let le = ends_order c.requires.ends.0 c.args.front.now c.args.back.now n c.requires.ends.2 c.requires.order in
    let last = c.split_step-end.ensures.first ∙ ap (get_or c.args.back.now 0) c.len.ensures.value in
    omega arith

pub filter_leaf_range-requires-clause-inside : goal.filter_leaf_range-requires-clause-inside
filter_leaf_range-requires-clause-inside g t c =
    let n = c.args.node.now in
    let le = end_inside c.requires.ends.0 c.args.back.now n (length (own_pairs n)) c.requires.ends.3 (omega arith) in
    let last = c.split_step-end.ensures.first ∙ ap (get_or c.args.back.now 0) c.len.ensures.value in
    omega arith

pub returns-clause-underfull : goal.returns-clause-underfull
returns-clause-underfull g t c h l =
    let w = goal.at.returns-clause-underfull g t c in
    let up : IsLeaf c.args.node.now → ⊥ = λ b. false≢true (c.if-is_leaf.ensures.1 b) in
    let a = level_above h c.args.node.now up l in
    let within = stretching_underfull (FiltersPair g.S.Filter.asked g.S.Filter.given) _ _ _ _ _ _ _ _ _ c.loop.invariant.at _ _ _
    (lent_last g t w.After-child_in-2) (came_last g t w.After-filter_range-2) c.filter_range-2.ensures.underfull a.below a.levels in
    subst (λ k. IsUnderfull k c.rebalance_between.new.node) (sym a.height) (c.rebalance_between.ensures.underfull a.below within)

pub returns-clause-filtered : goal.returns-clause-filtered
returns-clause-filtered g t c =
    let R = FiltersPair g.S.Filter.asked g.S.Filter.given in
    let w = goal.at.returns-clause-filtered g t c in
    let back = c.args.back.now in
    let e = ends g t w.Else-is_leaf in
    let u = c.filter_range-2.new.filter in
    let filtered = subst (λ p. IsRangeFiltered R c.loop.filter u c.loop.front_rest.now p c.child_in-2.result.now c.filter_range-2.new.node)
    c.split_step-end.ensures.rest c.filter_range-2.ensures.filtered in
    let m = came_last g t w.After-filter_range-2 in
    seam_stretch R c.args.filter.now u c.args.front.now back c.args.node.now _ c.rebalance_between.new.node
    (stretching_filtered R _ _ _ _ _ _ _ _ _ c.loop.invariant.at _ _ _ (lent_last g t w.After-child_in-2) m c.filter_range-2.ensures.underfull u back
    (at_end g t w.After-loop ∙ e.last) filtered) c.rebalance_between.ensures.pairs
