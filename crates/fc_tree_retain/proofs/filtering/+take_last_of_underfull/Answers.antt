use Rattle.std.proofs.Common.{ℕ, ◌<◌, refl, rules, arith, sym, subst}
use Rattle.std.proofs.lemmas.Bool.{false≢true}
use Rattle.fc_tree_node.specs.declared.node.Node.{Node}
use Rattle.fc_tree_search.specs.Written.{with_child}
use Rattle.fc_tree_node.specs.Node.{child_at, IsInner}
use Rattle.fc_tree_node.proofs.Lent.{replaced, lent_is}
use Rattle.fc_tree_removal.proofs.Removed.{empty_leaf}
use Rattle.fc_tree_node.specs.Measures.{height_of}
use Rattle.fc_tree_retain.specs.Rebalancing.{IsUnderfull}
use Rattle.fc_tree_retain.proofs.Levels.{IsUnderfullHeir, underfull_first, underfull_height, underfull_shrunk}
use Rattle.fc_tree_retain.proofs.Passing.{IsLastLent, last_below, none_below, last_underfull, if_none}
use Rattle.fc_tree_retain.proofs.filtering.+take_last_of_underfull.Given as given
use Rattle.fc_tree_retain.proofs.filtering.+take_last_of_underfull.Goals as goal
use Rattle.fc_tree_retain.proofs.filtering.+take_last_of_underfull.Goals.{Else-is_leaf, After-child_in, After-take_last_of_underfull}

first : (g : given.Over) (t : ℕ) (c : Else-is_leaf g t) → IsInner c.args.node.now × IsUnderfullHeir c.requires.underfull.0 (child_at c.args.node.now 0)
first g t c = underfull_first _ c.args.node.now (λ l. false≢true (c.if-is_leaf.ensures.1 l)) c.requires.underfull.1

-- the node, whose only child came back
abbrev left : (g : given.Over) (t : ℕ) → After-take_last_of_underfull g t → Node g.row.K.Denot g.row.V.Denot g.row.A.Denot
left g t c =
    with_child c.args.node.now 0 c.take_last_of_underfull.new.node

last : (g : given.Over) (t : ℕ) (c : After-take_last_of_underfull g t) → IsInner c.args.node.now
    → IsLastLent c.args.node.now (left g t c) c.child_in.result.now c.take_last_of_underfull.new.node 0
last g t c inner =
    let n = c.args.node.now in
    record {
      inner = inner;
      last = omega arith;
      is = lent_is n 0 _ inner (omega arith) c.child_in.ensures.value;
      set = replaced n 0 c.take_last_of_underfull.new.node;
    }

pub returns-then-len-gt0-clause-underfull : goal.returns-then-len-gt0-clause-underfull
returns-then-len-gt0-clause-underfull g t c h b =
    underfull_shrunk h c.args.node.now _ (omega arith) c.remove_last.ensures.levels b

pub returns-then-is_leaf-clause-none : goal.returns-then-is_leaf-clause-none
returns-then-is_leaf-clause-none g t c =
    empty_leaf c.args.node.now (c.if-is_leaf.ensures.0 (search rules)) (omega arith)

pub take_last_of_underfull-requires : goal.take_last_of_underfull-requires
take_last_of_underfull-requires g t c κs within =
    let n = c.args.node.now in
    let f = first g t (goal.at.take_last_of_underfull-requires g t c).Else-is_leaf in
    let is = lent_is n 0 _ f.0 (omega arith) c.child_in.ensures.value in
    let b = subst (IsUnderfull f.1.below) (sym is) f.1.underfull in
    let x = underfull_height c.requires.underfull.0 n c.requires.underfull.1 in
    let y = underfull_height f.1.below c.child_in.result.now b in
    let falls : height_of c.child_in.result.now < height_of n = omega arith in
    (search rules, (search rules, (search rules, (search rules, (f.1.below, b)))))

pub returns-clause-underfull : goal.returns-clause-underfull
returns-clause-underfull g t c h b =
    let w = goal.at.returns-clause-underfull g t c in
    last_underfull h _ _ _ _ (last g t w.After-take_last_of_underfull (first g t w.Else-is_leaf).0) c.take_last_of_underfull.ensures.underfull b

pub returns-clause-pairs : goal.returns-clause-pairs
returns-clause-pairs g t c =
    let w = goal.at.returns-clause-pairs g t c in
    last_below _ _ _ _ _ c.take_last_of_underfull.result
    (last g t w.After-take_last_of_underfull (first g t w.Else-is_leaf).0) c.take_last_of_underfull.ensures.pairs

pub returns-clause-none : goal.returns-clause-none
returns-clause-none g t c =
    let w = goal.at.returns-clause-none g t c in
    if_none c.take_last_of_underfull.result (none_below _ _ _ _ _ (last g t w.After-take_last_of_underfull (first g t w.Else-is_leaf).0) refl)
    c.take_last_of_underfull.ensures.none
