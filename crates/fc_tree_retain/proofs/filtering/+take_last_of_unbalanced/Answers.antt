use Rattle.std.proofs.Common.{ℕ, suc, ◌-◌, ◌<◌, Some, None, rules, arith, ◌∙◌, append-nil}
use Rattle.std.proofs.lemmas.Bool.{false≢true}
use Rattle.fc_tree_node.specs.declared.node.Node.{Node}
use Rattle.fc_tree_search.specs.Written.{with_child}
use Rattle.fc_tree_node.proofs.Lent.{replaced, lent_is}
use Rattle.fc_tree_removal.proofs.Removed.{last_taken}
use Rattle.fc_tree_node.specs.Measures.{height_of}
use Rattle.fc_tree_retain.proofs.Levels.{unbalanced_above, unbalanced_height, unbalanced_lent, lent_falls, leaf_fewer}
use Rattle.fc_tree_retain.proofs.Passing.{IsLastLent, last_left, last_below, none_below, empty_last, last_unbalanced}
use Rattle.fc_tree_retain.proofs.filtering.+take_last_of_unbalanced.Given as given
use Rattle.fc_tree_retain.proofs.filtering.+take_last_of_unbalanced.Goals as goal
use Rattle.fc_tree_retain.proofs.filtering.+take_last_of_unbalanced.Goals.{After-take_last_of_unbalanced}

-- the node, whose last child came back
abbrev left : (g : given.Over) (t : ℕ) → After-take_last_of_unbalanced g t → Node g.row.K.Denot g.row.V.Denot g.row.A.Denot
left g t c =
    with_child c.args.node.now c.len-end.result c.take_last_of_unbalanced.new.node

last : (g : given.Over) (t : ℕ) (c : After-take_last_of_unbalanced g t)
    → IsLastLent c.args.node.now (left g t c) c.child_in.result.now c.take_last_of_unbalanced.new.node c.len-end.result
last g t c =
    let n = c.args.node.now in
    let e = c.len-end.ensures.value in
    let a = unbalanced_above _ n (λ l. false≢true (c.if-is_leaf.ensures.1 l)) c.requires.unbalanced.1 in
    record {
      inner = a.levels.1;
      last = e;
      is = lent_is n c.len-end.result _ a.levels.1 (omega arith) c.child_in.ensures.value;
      set = replaced n c.len-end.result c.take_last_of_unbalanced.new.node;
    }

pub returns-then-is_leaf-clause-unbalanced : goal.returns-then-is_leaf-clause-unbalanced
returns-then-is_leaf-clause-unbalanced g t c h l =
    leaf_fewer h c.args.node.now _ (c.len-end.result - 1) (omega arith) c.remove_leaf.ensures.leaf (c.if-is_leaf.ensures.0 (search rules))
    c.remove_leaf.ensures.pairs l

pub returns-then-is_leaf-clause-pairs : goal.returns-then-is_leaf-clause-pairs
returns-then-is_leaf-clause-pairs g t c =
    last_taken c.args.node.now _ (c.len-end.result - 1) c.remove_leaf.result (c.if-is_leaf.ensures.0 (search rules)) c.remove_leaf.ensures.leaf
    (omega arith) c.remove_leaf.ensures.value c.remove_leaf.ensures.pairs

pub take_last_of_unbalanced-requires : goal.take_last_of_unbalanced-requires
take_last_of_unbalanced-requires g t c κs within =
    let n = c.args.node.now in
    let a = unbalanced_above _ n (λ l. false≢true (c.if-is_leaf.ensures.1 l)) c.requires.unbalanced.1 in
    let l = unbalanced_lent (suc a.below) n c.len-end.result _ a.levels.1 a.levels (omega arith) c.child_in.ensures.value in
    let x = unbalanced_height (suc a.below) n a.levels in
    let y : height_of c.child_in.result.now < suc a.below = lent_falls l in
    let falls : height_of c.child_in.result.now < height_of n = omega arith in
    (search rules, (search rules, (search rules, (search rules, (l.below, l.child)))))

pub returns-in-Some-clause-unbalanced : goal.returns-in-Some-clause-unbalanced
returns-in-Some-clause-unbalanced g t c h b =
    last_unbalanced h _ _ _ _ _ (last g t (goal.at.returns-in-Some-clause-unbalanced g t c).After-take_last_of_unbalanced)
    c.take_last_of_unbalanced.ensures.unbalanced b

pub returns-in-Some-clause-pairs : goal.returns-in-Some-clause-pairs
returns-in-Some-clause-pairs g t c =
    last_below _ _ _ _ _ (Some c.in-Some.pair) (last g t (goal.at.returns-in-Some-clause-pairs g t c).After-take_last_of_unbalanced) c.in-Some.ensures.pairs

pub returns-then-end-eq0-2-clause-unbalanced : goal.returns-then-end-eq0-2-clause-unbalanced
returns-then-end-eq0-2-clause-unbalanced g t c h b =
    last_unbalanced h _ _ _ _ _ (last g t (goal.at.returns-then-end-eq0-2-clause-unbalanced g t c).After-take_last_of_unbalanced)
    c.take_last_of_unbalanced.ensures.unbalanced b

pub returns-then-end-eq0-2-clause-pairs : goal.returns-then-end-eq0-2-clause-pairs
returns-then-end-eq0-2-clause-pairs g t c =
    last_below _ _ _ _ _ None (last g t (goal.at.returns-then-end-eq0-2-clause-pairs g t c).After-take_last_of_unbalanced) c.in_default.ensures.pairs

pub returns-then-end-eq0-2-clause-none : goal.returns-then-end-eq0-2-clause-none
returns-then-end-eq0-2-clause-none g t c =
    let l = last g t (goal.at.returns-then-end-eq0-2-clause-none g t c).After-take_last_of_unbalanced in
    none_below _ _ _ _ _ l c.if-end-eq0-2.true c.in_default.ensures.none

pub take_own_last-requires-clause-inner : goal.take_own_last-requires-clause-inner
take_own_last-requires-clause-inner g t c =
    (last_left _ _ _ _ _ (last g t (goal.at.take_own_last-requires-clause-inner g t c).After-take_last_of_unbalanced)).inner

pub take_own_last-requires-clause-empty : goal.take_own_last-requires-clause-empty
take_own_last-requires-clause-empty g t c =
    empty_last _ _ _ _ _ (last g t (goal.at.take_own_last-requires-clause-empty g t c).After-take_last_of_unbalanced) c.in_default.ensures.none

pub returns-clause-unbalanced : goal.returns-clause-unbalanced
returns-clause-unbalanced g t c h b =
    let l = last g t (goal.at.returns-clause-unbalanced g t c).After-take_last_of_unbalanced in
    c.take_own_last.ensures.unbalanced h (last_unbalanced h _ _ _ _ _ l c.take_last_of_unbalanced.ensures.unbalanced b)

pub returns-clause-pairs : goal.returns-clause-pairs
returns-clause-pairs g t c =
    let l = last g t (goal.at.returns-clause-pairs g t c).After-take_last_of_unbalanced in
    last_below _ _ _ _ _ None l c.in_default.ensures.pairs ∙ append-nil _ ∙ c.take_own_last.ensures.pairs
