use Rattle.std.proofs.Common.{rules, arith, sym, subst}
use Rattle.fc_tree_node.specs.Node.{IsLevelled}
use Rattle.fc_tree_node.specs.Path.{IsPath}
use Rattle.fc_tree_node.proofs.PathSteps.{one_step, step_of}
use Rattle.fc_tree_node.proofs.Pairs.{child_below}
use Rattle.fc_tree_cursor.proofs.LeafFacts.{after_leaf, after_own_child}
use Rattle.fc_tree_cursor.proofs.leaf.+pairs_after.Goals as goal

pub pairs_after-requires : goal.pairs_after-requires
pairs_after-requires g t c κs within =
    let s = step_of c.args.gap.now c.args.node.now (omega arith) c.requires.path c.requires.levels in
    let b = child_below _ c.args.node.now _ s.levels s.le in (
      omega arith,
      (
        search rules,
        (
          search rules,
          (
            search rules,
            (
              omega arith,
              (
                subst (IsPath _) (sym c.child.ensures) s.onward,
                subst (IsLevelled _) (sym c.child.ensures) b.1,
              ),
            ),
          ),
        ),
      ),
    )

pub returns-then-gap-eq1 : goal.returns-then-gap-eq1
returns-then-gap-eq1 g t c =
    let r = rw (← c.len.ensures.value) at (after_leaf c.args.gap.now c.args.node.now (one_step _ c.if-gap-eq1.true) c.requires.path) in
    record { there = r.there; all = r.all }

pub returns-else-gap-eq1 : goal.returns-else-gap-eq1
returns-else-gap-eq1 g t c =
    let s = step_of c.args.gap.now c.args.node.now (omega arith) c.requires.path c.requires.levels in
    let e = rw c.child.ensures at c.pairs_after.ensures in
    let r = after_own_child c.args.gap.now c.args.node.now c.pairs_after.result (omega arith) s (record { there = e.there; all = e.all }) in
    record { there = r.there; all = r.all }
