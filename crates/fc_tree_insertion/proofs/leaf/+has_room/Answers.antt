use Rattle.std.proofs.Common.{length, rules, ap, arith, sym, subst}
use Rattle.std.proofs.lemmas.Bool.{ltb-true, lt-ltb}
use Rattle.fc_tree_node.specs.Node.{own_pairs, IsLevelled}
use Rattle.fc_tree_node.specs.Path.{IsPath}
use Rattle.fc_tree_node.proofs.PathSteps.{one_step, step_of}
use Rattle.fc_tree_node.proofs.Pairs.{child_below}
use Rattle.fc_tree_insertion.proofs.Leaves.{leaf_here, leaf_below}
use Rattle.fc_tree_insertion.proofs.leaf.+has_room.Goals as goal

pub returns-then-path-eq1 : goal.returns-then-path-eq1
returns-then-path-eq1 g t c =
    let e = ap (λ n. length (own_pairs n)) (leaf_here c.args.path.now c.args.node.now (one_step _ c.if-path-eq1.true)) in
    (λ h. let lt = ltb-true _ _ h in omega arith, λ h. lt-ltb _ _ (omega arith))

pub has_room-requires : goal.has_room-requires
has_room-requires g t c κs within =
    let s = step_of c.args.path.now c.args.node.now (omega arith) c.requires.path c.requires.levels in
    let b = child_below _ c.args.node.now _ s.levels s.le in (
      search rules,
      (
        search rules,
        (
          search rules,
          (
            search rules,
            (
              omega arith,
              (
                subst (IsPath _) (sym c.child.ensures) s.onward,
                subst (IsLevelled _) (sym c.child.ensures) b.1,
              ),
            ),
          ),
        ),
      ),
    )

pub returns : goal.returns
returns g t c =
    let s = step_of c.args.path.now c.args.node.now (omega arith) c.requires.path c.requires.levels in
    let e = leaf_below c.args.path.now c.args.node.now _ (omega arith) s c.child.ensures in
    rw e c.has_room.ensures
