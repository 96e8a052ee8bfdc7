use Rattle.std.proofs.Common.{◌≡◌, ℕ, suc, ◌+◌, ◌-◌, ◌<◌, sym, subst, ◌∙◌, arith, rules}
use Rattle.std.proofs.lemmas.Bool.{false≢true}
use Rattle.fc_tree_node.specs.Node.{child_at}
use Rattle.fc_tree_node.proofs.Lent.{IsAbove, replaced, lent_is}
use Rattle.fc_tree_node.specs.Measures.{height_of}
use Rattle.fc_tree_retain.specs.Unbalanced.{IsUnbalanced}
use Rattle.fc_tree_retain.specs.Rebalancing.{IsUnderfull}
use Rattle.fc_tree_retain.proofs.Levels.{unbalanced_above, unbalanced_height}
use Rattle.fc_tree_retain.proofs.Settling.{IsRebalancing, rebalancing_start, rebalancing_more, rebalancing_end, next_unbalanced, next_rebalanced}
use Rattle.fc_tree_retain.proofs.rebalancing.+rebalance.Given as given
use Rattle.fc_tree_retain.proofs.rebalancing.+rebalance.Goals as goal
use Rattle.fc_tree_retain.proofs.rebalancing.+rebalance.Goals.{Else-is_leaf, After-child_in-in-loop}

up : (g : given.Over) (t : ℕ) (c : Else-is_leaf g t) (h : ℕ) → IsUnbalanced h c.args.node.now → IsAbove IsUnbalanced h c.args.node.now
up g t c h l = unbalanced_above h c.args.node.now (λ l. false≢true (c.if-is_leaf.ensures.1 l)) l

lent : (g : given.Over) (t : ℕ) (c : After-child_in-in-loop g t) → c.child_in-in-loop.result.now ≡ child_at c.loop.node (c.loop.at + 1)
lent g t c =
    let at = c.loop.invariant in
    lent_is c.loop.node (c.loop.at + 1) _ at.inner (omega arith) c.child_in-in-loop.ensures.value

pub loop-init : goal.loop-init
loop-init g t c =
    let n = c.args.node.now in
    let a = up g t (goal.at.loop-init g t c).Else-is_leaf _ c.requires.unbalanced.1 in
    let is = lent_is n 0 _ a.levels.1 (omega arith) c.child_in.ensures.value in
    let m = replaced n 0 c.rebalance.new.node in
    let e = c.len-end.ensures.value in
    let z : c.len-end.result ≡ c.len-end.result - 0 = omega arith in
    rebalancing_start n _ c.child_in.result.now c.rebalance.new.node (c.len-end.result - 0) a.levels.1 m is c.rebalance.ensures.pairs
    c.rebalance.ensures.levels (sym e ∙ z)

pub overflow_add-at : goal.overflow_add-at
overflow_add-at g t c =
    let a = up g t (goal.at.overflow_add-at g t c).Else-is_leaf _ c.requires.unbalanced.1 in
    let at = c.loop.invariant in
    let fits = (at.levels a.below a.levels).fits in
    omega arith

pub rebalance-requires-in-loop : goal.rebalance-requires-in-loop
rebalance-requires-in-loop g t c κs within =
    let n = c.args.node.now in
    let w = goal.at.rebalance-requires-in-loop g t c in
    let a = up g t w.Else-is_leaf _ c.requires.unbalanced.1 in
    let at = c.loop.invariant in
    let next = next_unbalanced a.below c.loop.at c.loop.node at.inner (omega arith) (at.levels a.below a.levels) in
    let b = subst (IsUnbalanced a.below) (sym (lent g t w.After-child_in-in-loop)) next in
    let x = unbalanced_height (suc a.below) n a.levels in
    let y = unbalanced_height a.below c.child_in-in-loop.result.now b in
    let falls : height_of c.child_in-in-loop.result.now < height_of n = omega arith in
    (omega (arith, falls, c.decreases), (search rules, (search rules, (search rules, (a.below, b)))))

pub rebalance_seam-at-requires : goal.rebalance_seam-at-requires
rebalance_seam-at-requires g t c =
    let w = goal.at.rebalance_seam-at-requires g t c in
    let a = up g t w.Else-is_leaf _ c.requires.unbalanced.1 in
    let at = c.loop.invariant in
    let m = replaced c.loop.node (c.loop.at + 1) c.rebalance-in-loop.new.node in
    let next = next_rebalanced a.below c.loop.at c.loop.node _ c.child_in-in-loop.result.now c.rebalance-in-loop.new.node at.inner (omega arith)
    (at.levels a.below a.levels) (lent g t w.After-child_in-in-loop) m c.rebalance-in-loop.ensures.levels in
    (a.below, next.seam)

pub loop-preserved : goal.loop-preserved
loop-preserved g t c =
    let w = goal.at.loop-preserved g t c in
    let a = up g t w.Else-is_leaf _ c.requires.unbalanced.1 in
    let m = replaced c.loop.node (c.loop.at + 1) c.rebalance-in-loop.new.node in
    rebalancing_more c.args.node.now c.loop.node _ c.rebalance_seam-at.new.node c.child_in-in-loop.result.now c.rebalance-in-loop.new.node c.loop.at
    (c.len-end.result - c.loop.counter) (c.len-end.result - (c.loop.counter + 1)) c.rebalance_seam-at.result a.below c.loop.invariant (omega arith) a.levels
    (lent g t w.After-child_in-in-loop) m c.rebalance-in-loop.ensures.pairs c.rebalance-in-loop.ensures.levels c.rebalance_seam-at.ensures.pairs
    c.rebalance_seam-at.ensures.seam_rebalanced

pub returns-clause-pairs : goal.returns-clause-pairs
returns-clause-pairs g t c = c.loop.invariant.pairs

pub returns-clause-levels : goal.returns-clause-levels
returns-clause-levels g t c h l =
    let n = c.args.node.now in
    let a = up g t (goal.at.returns-clause-levels g t c).Else-is_leaf h l in
    let z : c.len-end.result - c.loop.counter ≡ 0 = omega arith in
    let done = subst (λ j. IsRebalancing n c.loop.node c.loop.at j) z c.loop.invariant in
    subst (λ i. IsUnderfull i c.loop.node) (sym a.height) (rebalancing_end n c.loop.node c.loop.at done a.below a.levels)
