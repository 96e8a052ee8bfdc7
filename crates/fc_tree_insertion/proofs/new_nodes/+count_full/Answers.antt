use Rattle.std.proofs.Common.{ℕ, rules, arith, sym, subst}
use Rattle.fc_tree_node.specs.Node.{IsLevelled}
use Rattle.fc_tree_node.specs.Path.{IsPath}
use Rattle.fc_tree_node.proofs.PathSteps.{one_step, step_of}
use Rattle.fc_tree_node.proofs.Pairs.{child_below}
use Rattle.fc_tree_insertion.proofs.Cascades.{leaf_full, leaf_room, IsCascadeStep, cascade_step}
use Rattle.fc_tree_insertion.proofs.new_nodes.+count_full.Given as given
use Rattle.fc_tree_insertion.proofs.new_nodes.+count_full.Goals as goal
use Rattle.fc_tree_insertion.proofs.new_nodes.+count_full.Goals.{After-child, else-below-rest-via-then-below-rest+else-len-eq-CAPACITY-2}
use Rattle.fc_tree_insertion.proofs.new_nodes.+count_full.Goals.{else-below-rest-via-else-below-rest}

pub returns-then-len-eq-CAPACITY : goal.returns-then-len-eq-CAPACITY
returns-then-len-eq-CAPACITY g t c = sym (leaf_full _ _ (one_step _ c.if-path-eq1.true) (omega arith))

pub returns-else-len-eq-CAPACITY : goal.returns-else-len-eq-CAPACITY
returns-else-len-eq-CAPACITY g t c = sym (leaf_room _ _ (one_step _ c.if-path-eq1.true) (omega arith))

-- the child that the path leads to
down : (g : given.Over) (t : ℕ) (c : After-child g t) → IsCascadeStep c.args.path.now c.args.node.now c.child.result.now
down g t c = cascade_step _ _ _ (step_of _ _ (omega arith) c.requires.path c.requires.levels) c.child.ensures

pub count_full-below-requires : goal.count_full-below-requires
count_full-below-requires g t c κs within =
    let s = (down g t (goal.at.count_full-below-requires g t c).After-child).step in
    let b = child_below _ c.args.node.now _ s.levels s.le in
    let path = subst (IsPath _) (sym c.child.ensures) s.onward in
    (search rules, (search rules, (search rules, (search rules, (omega arith, (path, subst (IsLevelled _) (sym c.child.ensures) b.1))))))

pub returns-then-len-eq-CAPACITY-2 : goal.returns-then-len-eq-CAPACITY-2
returns-then-len-eq-CAPACITY-2 g t c =
    let k = down g t (goal.at.returns-then-len-eq-CAPACITY-2 g t c).After-child in
    omega arith

pub returns-else-below-rest : goal.returns-else-below-rest
returns-else-below-rest g t c =
    let k = down g t (goal.at.returns-else-below-rest g t c).After-child in
    elim c.else-below-rest.branch [
      | else-below-rest-via-then-below-rest+else-len-eq-CAPACITY-2 w ↦ omega arith
      | else-below-rest-via-else-below-rest w ↦ omega arith
    ]
