use Rattle.std.proofs.Common.{◌≡◌, ◌+◌, ◌-◌, take, ap, ◌∙◌, arith}
use Rattle.fc_tree_node.specs.Node.{child_at}
use Rattle.fc_tree_node.specs.Place.{node_at}
use Rattle.fc_tree_cursor.proofs.Ways.{down, down_child}
use Rattle.fc_tree_cursor.proofs.run.leaf_of.Goals as goal

pub child-node-requires : goal.child-node-requires
child-node-requires g c =
    let d = down c.args.gap.now c.requires.levels.0 c.loop-level.level c.args.root.now c.loop-level.node.now c.requires.levels.2 c.requires.gap
    (omega (arith, c.len-last.ensures.value, c.loop-level-test.true)) c.loop-level.invariant.0 in
    omega (
      arith,
      c.step.ensures,
      (down_child c.args.gap.now c.args.root.now c.loop-level.node.now c.loop-level.level d
          (omega (arith, c.len-last.ensures.value, c.loop-level-test.true))).0,
    )

pub loop-level-preserved : goal.loop-level-preserved
loop-level-preserved g c =
    let d = down c.args.gap.now c.requires.levels.0 c.loop-level.level c.args.root.now c.loop-level.node.now c.requires.levels.2 c.requires.gap
    (omega (arith, c.len-last.ensures.value, c.loop-level-test.true)) c.loop-level.invariant.0 in
    let a = (down_child c.args.gap.now c.args.root.now c.loop-level.node.now c.loop-level.level d
    (omega (arith, c.len-last.ensures.value, c.loop-level-test.true))).1 in
    let same : c.loop-level.level ≡ c.loop-level.level + 1 - 1 = omega arith in (
      c.child-node.ensures ∙ ap (child_at c.loop-level.node.now) c.step.ensures
          ∙ a,
      (omega arith, c.loop-level.invariant.0 ∙ ap (λ k. node_at (take k c.args.gap.now) c.args.root.now) same),
    )
