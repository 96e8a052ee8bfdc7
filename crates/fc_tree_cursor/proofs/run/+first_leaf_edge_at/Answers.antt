use Rattle.std.proofs.Common.{refl, arith}
use Rattle.fc_tree_cursor.proofs.Ways.{set_here, set_below}
use Rattle.fc_tree_cursor.proofs.run.+first_leaf_edge_at.Goals as goal

pub returns-then-level-len : goal.returns-then-level-len
returns-then-level-len g t c =
    set_below c.args.gap.now c.set.new.self c.first_leaf_edge_at.new.gap c.args.level 0 0 c.args.node.now c.child.result.now 0
    (omega (arith, c.len-len.ensures.value))
    c.set.ensures c.requires.levels (omega arith) c.child.ensures c.first_leaf_edge_at.ensures (λ _. refl)

pub returns-else-level-len : goal.returns-else-level-len
returns-else-level-len g t c = set_here c.args.gap.now c.set.new.self c.args.level 0 c.args.node.now 0
    (omega (arith, c.requires.level, c.len-len.ensures.value)) c.set.ensures c.requires.levels (omega arith) (λ _. refl)
