use Rattle.std.proofs.Common.{◌≡◌, ◌+◌, ◌-◌, ◌<◌, length, get_or, arith, sym, ap, subst, ◌∙◌}
use Rattle.fc_tree_node.specs.Node.{child_at}
use Rattle.fc_tree_cursor.proofs.Ways.{IsDown, down, down_child, BeforeWay, before_step, before_end}
use Rattle.fc_tree_cursor.proofs.run.lowest_with_previous.Given as given
use Rattle.fc_tree_cursor.proofs.run.lowest_with_previous.Goals as goal
use Rattle.fc_tree_cursor.proofs.run.lowest_with_previous.Goals.{In-loop-level, After-loop-level}

-- a step above the last one
above : (g : given.Over) (c : In-loop-level g) → c.loop-level.level + 1 < length c.args.gap.now
above g c = omega (arith, c.len-last.ensures.value, c.loop-level-test.true)

-- the way as far as it
on_way : (g : given.Over) (c : In-loop-level g) → IsDown c.args.gap.now c.args.root.now c.loop-level.node.now c.loop-level.level
on_way g c =
    let k = above g c in
    down c.args.gap.now c.requires.levels.0 c.loop-level.level c.args.root.now _ c.requires.levels.2 c.requires.gap (omega arith) c.loop-level.invariant.0

-- the last step
last : (g : given.Over) (c : After-loop-level g) → c.loop-level.level ≡ c.len-last.result - 1
last g c = omega arith

-- with it the path ends
whole : (g : given.Over) (c : After-loop-level g) → c.loop-level.level + 1 ≡ length c.args.gap.now
whole g c =
    let long = c.requires.gap.1 c.requires.levels.0 c.requires.levels.2 in
    omega (arith, last g c, long, c.len-last.ensures.value)

-- and the way as far as that
at_end : (g : given.Over) (c : After-loop-level g) → IsDown c.args.gap.now c.args.root.now c.loop-level.node.now c.loop-level.level
at_end g c =
    let k = whole g c in
    down c.args.gap.now c.requires.levels.0 c.loop-level.level c.args.root.now _ c.requires.levels.2 c.requires.gap (omega arith) c.loop-level.invariant.0

pub child-node-requires : goal.child-node-requires
child-node-requires g c =
    let at = (goal.at.child-node-requires g c).In-loop-level in
    let d = on_way g at in
    omega (
      arith,
      c.step-step.ensures,
      (down_child c.args.gap.now c.args.root.now c.loop-level.node.now c.loop-level.level d
          (above g at)).0,
    )

pub loop-level-preserved : goal.loop-level-preserved
loop-level-preserved g c =
    let at = (goal.at.loop-level-preserved g c).In-loop-level in
    let d = on_way g at in
    subst (λ n. BeforeWay c.args.gap.now c.args.root.now n (c.loop-level.level + 1) c.lower.result.0.now c.lower.result.1)
    (sym (c.child-node.ensures ∙ ap (child_at c.loop-level.node.now) c.step-step.ensures))
    (before_step c.args.gap.now c.args.root.now c.loop-level.node.now c.loop-level.best.now c.lower.result.0.now c.loop-level.level c.loop-level.place
    c.lower.result.1 d (above g at) c.loop-level.invariant
    (λ z. let r = c.lower.ensures.other (omega arith) in (ap (λ x. x.0.now) r, ap (λ x. x.1) r))
    (λ z. let r = c.lower.ensures.best (omega arith) in (ap (λ x. x.0.now) r, ap (λ x. x.1) r)))

pub returns : goal.returns
returns g c =
    let at = (goal.at.returns g c).After-loop-level in
    let lv = last g at in
    let d = at_end g at in
    let e : c.step.result ≡ get_or c.args.gap.now c.loop-level.level 0 = c.step.ensures ∙ ap (λ i. get_or c.args.gap.now i 0) (sym lv) in
    let r = before_end c.args.gap.now c.args.root.now c.loop-level.node.now c.loop-level.best.now c.lower-2.result.0.now c.loop-level.level c.loop-level.place
    c.lower-2.result.1 d (whole g at) c.loop-level.invariant c.requires.some
    (λ z. let r = c.lower-2.ensures.other (omega arith) in (ap (λ x. x.0.now) r, ap (λ x. x.1) r ∙ sym lv))
    (λ z. let r = c.lower-2.ensures.best (omega arith) in (ap (λ x. x.0.now) r, ap (λ x. x.1) r)) in
    record { way = r.way; own = r.own; before = r.before }
