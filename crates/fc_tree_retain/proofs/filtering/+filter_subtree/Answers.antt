use Rattle.std.proofs.Common.{◌≡◌, ℕ, ◌+◌, ◌-◌, ◌<◌, rules, arith, sym, subst}
use Rattle.std.proofs.lemmas.Bool.{false≢true}
use Rattle.fc_tree_node.specs.declared.node.Node.{Node}
use Rattle.fc_tree_node.proofs.Lent.{IsLent, IsReplaced, replaced}
use Rattle.fc_tree_node.specs.Measures.{height_of}
use Rattle.fc_tree_retain.specs.Unbalanced.{IsUnbalanced}
use Rattle.fc_tree_retain.specs.Filtered.{FiltersPair}
use Rattle.fc_tree_retain.proofs.Levels.{unbalanced_above, unbalanced_height, unbalanced_lent, lent_falls}
use Rattle.fc_tree_retain.proofs.Passing.{IsFiltering, child_left, filtering_start, filtering_more, IsAllFiltered, filtering_end}
use Rattle.fc_tree_retain.proofs.filtering.+filter_subtree.Given as given
use Rattle.fc_tree_retain.proofs.filtering.+filter_subtree.Goals as goal
use Rattle.fc_tree_retain.proofs.filtering.+filter_subtree.Goals.{After-child_in, After-child_in-2, After-filter_subtree-2}

lent_at : (g : given.Over) (t : ℕ) (c : After-child_in g t)
    → IsLent IsUnbalanced IsUnbalanced c.requires.unbalanced.0 c.loop.node c.child_in.result.now c.loop.at
lent_at g t c =
    let at = c.loop.invariant.at in
    unbalanced_lent _ c.loop.node c.loop.at _ at.inner (at.levels _ c.requires.unbalanced.1) (omega arith) c.child_in.ensures.value

lent_last : (g : given.Over) (t : ℕ) (c : After-child_in-2 g t)
    → IsLent IsUnbalanced IsUnbalanced c.requires.unbalanced.0 c.loop.node c.child_in-2.result.now c.loop.at
lent_last g t c =
    let at = c.loop.invariant.at in
    unbalanced_lent _ c.loop.node c.loop.at _ at.inner (at.levels _ c.requires.unbalanced.1) (omega arith) c.child_in-2.ensures.value

pub loop-init : goal.loop-init
loop-init g t c =
    let n = c.args.node.now in
    let R = FiltersPair g.S.Filter.asked g.S.Filter.given in
    let a = unbalanced_above _ n (λ l. false≢true (c.if-is_leaf.ensures.1 l)) c.requires.unbalanced.1 in
    record { callable = c.requires.callable; at = filtering_start R c.args.filter.now n (c.len-end.result - 0) a.levels.1 (omega arith) }

pub filter_subtree-requires : goal.filter_subtree-requires
filter_subtree-requires g t c κs within =
    let l = lent_at g t (goal.at.filter_subtree-requires g t c).After-child_in in
    let x = unbalanced_height c.requires.unbalanced.0 c.args.node.now c.requires.unbalanced.1 in
    let y : height_of c.child_in.result.now < c.requires.unbalanced.0 = lent_falls l in
    let falls : height_of c.child_in.result.now < height_of c.args.node.now = omega arith in
    (omega (arith, falls, c.decreases), (search rules, (search rules, (search rules, (search rules, ((l.below, l.child), c.loop.invariant.callable))))))

pub filter_separator-at-requires-clause-child : goal.filter_separator-at-requires-clause-child
filter_separator-at-requires-clause-child g t c =
    let l = lent_at g t (goal.at.filter_separator-at-requires-clause-child g t c).After-child_in in
    let m = replaced c.loop.node c.loop.at c.filter_subtree.new.node in
    let w = child_left c.loop.node _ c.filter_subtree.new.node c.loop.at c.loop.invariant.at.inner (omega arith) m in
    (l.below, subst (IsUnbalanced l.below) (sym w.child) (c.filter_subtree.ensures.unbalanced l.below l.child))

pub filter_separator-at-requires-clause-fits : goal.filter_separator-at-requires-clause-fits
filter_separator-at-requires-clause-fits g t c =
    let l = lent_at g t (goal.at.filter_separator-at-requires-clause-fits g t c).After-child_in in
    omega (arith, (replaced c.loop.node c.loop.at c.filter_subtree.new.node).size, l.levels.0)

pub filter_separator-at-requires-clause-inner : goal.filter_separator-at-requires-clause-inner
filter_separator-at-requires-clause-inner g t c =
    let at = c.loop.invariant.at in
    let m = replaced c.loop.node c.loop.at c.filter_subtree.new.node in
    (child_left c.loop.node _ c.filter_subtree.new.node c.loop.at at.inner (omega arith) m).inner

pub loop-preserved : goal.loop-preserved
loop-preserved g t c =
    let R = FiltersPair g.S.Filter.asked g.S.Filter.given in
    let l = lent_at g t (goal.at.loop-preserved g t c).After-child_in in
    record {
      callable = c.filter_separator-at.ensures.callable;
      at = filtering_more R c.args.filter.now c.loop.filter c.filter_subtree.new.filter c.filter_separator-at.new.filter c.args.node.now c.loop.node _
          c.filter_separator-at.new.node
          c.child_in.result.now c.filter_subtree.new.node c.loop.at (c.len-end.result - c.loop.counter) (c.len-end.result - (c.loop.counter + 1))
          c.filter_separator-at.result c.loop.invariant.at (omega arith) l.is (replaced c.loop.node c.loop.at c.filter_subtree.new.node)
          c.filter_subtree.ensures.filtered c.filter_subtree.ensures.unbalanced c.filter_separator-at.ensures.passed;
    }

pub filter_subtree-requires-2 : goal.filter_subtree-requires-2
filter_subtree-requires-2 g t c κs within =
    let l = lent_last g t (goal.at.filter_subtree-requires-2 g t c).After-child_in-2 in
    let x = unbalanced_height c.requires.unbalanced.0 c.args.node.now c.requires.unbalanced.1 in
    let y : height_of c.child_in-2.result.now < c.requires.unbalanced.0 = lent_falls l in
    let falls : height_of c.child_in-2.result.now < height_of c.args.node.now = omega arith in
    (omega (arith, falls, c.decreases), (search rules, (search rules, (search rules, (search rules, ((l.below, l.child), c.loop.invariant.callable))))))

ended : (g : given.Over) (t : ℕ) (c : After-filter_subtree-2 g t)
    (l : IsLent IsUnbalanced IsUnbalanced c.requires.unbalanced.0 c.loop.node c.child_in-2.result.now c.loop.at)
    (new : Node g.row.K.Denot g.row.V.Denot g.row.A.Denot) → IsReplaced c.loop.node new c.loop.at c.filter_subtree-2.new.node
    → IsAllFiltered (FiltersPair g.S.Filter.asked g.S.Filter.given) c.args.filter.now c.filter_subtree-2.new.filter c.args.node.now new
ended g t c l new m =
    let R = FiltersPair g.S.Filter.asked g.S.Filter.given in
    let z : c.len-end.result - c.loop.counter ≡ 0 = omega arith in
    let all = subst (λ j. IsFiltering R c.args.filter.now c.loop.filter c.args.node.now c.loop.node c.loop.at j) z c.loop.invariant.at in
    filtering_end R c.args.filter.now c.loop.filter c.filter_subtree-2.new.filter c.args.node.now c.loop.node new c.child_in-2.result.now
    c.filter_subtree-2.new.node c.loop.at all
    l.is m c.filter_subtree-2.ensures.filtered c.filter_subtree-2.ensures.unbalanced

pub returns-clause-unbalanced : goal.returns-clause-unbalanced
returns-clause-unbalanced g t c k b =
    let w = goal.at.returns-clause-unbalanced g t c in
    let m = replaced c.loop.node c.loop.at c.filter_subtree-2.new.node in
    (ended g t w.After-filter_subtree-2 (lent_last g t w.After-child_in-2) _ m).levels k b

pub returns-clause-filtered : goal.returns-clause-filtered
returns-clause-filtered g t c =
    let w = goal.at.returns-clause-filtered g t c in
    let m = replaced c.loop.node c.loop.at c.filter_subtree-2.new.node in
    (ended g t w.After-filter_subtree-2 (lent_last g t w.After-child_in-2) _ m).filters
