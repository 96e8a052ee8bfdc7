use Rattle.std.proofs.Common.{◌≡◌, ℕ, ◌-◌, ◌<◌, ◌≤◌, List, length, take, rules, arith, sym, subst}
use Rattle.fc_tree_node.specs.declared.node.Node.{Node}
use Rattle.fc_tree_node.specs.Node.{pairs_of, IsLevelled}
use Rattle.fc_tree_node.specs.Path.{IsPath, before_gap}
use Rattle.fc_tree_node.specs.Place.{IsPlace, before_pair}
use Rattle.fc_tree_node.proofs.PathSteps.{IsStep, one_step, step_of}
use Rattle.fc_tree_node.proofs.Pairs.{child_below}
use Rattle.fc_tree_cursor.proofs.GapFacts.{IsNext, next_leaf, next_own, next_child}
use Rattle.fc_tree_cursor.proofs.beside.+steps_to_next.Given as given
use Rattle.fc_tree_cursor.proofs.beside.+steps_to_next.Goals as goal
use Rattle.fc_tree_cursor.proofs.beside.+steps_to_next.Goals.{After-child}

-- what is to be shown of the steps
told : {K V Z : Type 0} (gap : List ℕ) (n : Node K V Z) (steps : ℕ) → IsNext gap n steps → record {
  within : steps ≤ length gap;
  none : steps ≡ 0 → length (before_gap gap n) ≡ length (pairs_of n);
  place : 0 < steps → IsPlace (take steps gap) n;
  before : 0 < steps → length (before_pair (take steps gap) n) ≡ length (before_gap gap n);
}
told gap n steps r = record { within = r.within; none = r.none; place = r.place; before = r.before }

-- the first step of a longer path
first_step : (g : given.Over) (t : ℕ) (c : After-child g t) → IsStep c.args.gap.now c.args.node.now
first_step g t c = step_of c.args.gap.now c.args.node.now (omega arith) c.requires.path c.requires.levels

pub returns-then-gap-eq1 : goal.returns-then-gap-eq1
returns-then-gap-eq1 g t c =
    let one = c.if-gap-eq1.true in
    let m = c.one_of-own.ensures in
    let w : length c.args.gap.now - 1 ≡ 0 = omega arith in
    told _ _ _
    (next_leaf c.args.gap.now c.args.node.now c.one_of-own.result (one_step _ one) c.requires.path
    (subst (λ k. IsLevelled k c.args.node.now) w c.requires.levels) (λ e. let z = m.none e in omega arith) (λ e. let o = m.one e in (o.0, omega arith)))

pub steps_to_next-below-requires : goal.steps_to_next-below-requires
steps_to_next-below-requires g t c κs within =
    let s = first_step g t (goal.at.steps_to_next-below-requires g t c).After-child in
    let b = child_below _ c.args.node.now _ s.levels s.le in
    let path = subst (IsPath _) (sym c.child.ensures) s.onward in
    (omega arith, (search rules, (search rules, (search rules, (omega arith, (path, subst (IsLevelled _) (sym c.child.ensures) b.1))))))

pub returns-then-below-eq0 : goal.returns-then-below-eq0
returns-then-below-eq0 g t c =
    let s = first_step g t (goal.at.returns-then-below-eq0 g t c).After-child in
    let m = c.one_of-own.ensures in
    let e = rw c.child.ensures at c.steps_to_next-below.ensures.none in
    told _ _ _
    (next_own c.args.gap.now c.args.node.now c.one_of-own.result s (e c.if-below-eq0.true) (λ e. let z = m.none e in omega arith)
    (λ e. let o = m.one e in (o.0, omega arith)))

pub returns-else-below-eq0 : goal.returns-else-below-eq0
returns-else-below-eq0 g t c =
    let s = first_step g t (goal.at.returns-else-below-eq0 g t c).After-child in
    let e = rw c.child.ensures at c.steps_to_next-below.ensures in
    told _ _ _
    (next_child c.args.gap.now c.args.node.now c.steps_to_next-below.result s
    (record { within = e.within; none = e.none; place = e.place; before = e.before }) (omega (arith, c.if-below-eq0.false)))
