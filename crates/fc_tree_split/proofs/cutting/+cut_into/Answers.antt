use Rattle.std.proofs.Common.{◌≡◌, ℕ, ◌+◌, ◌<◌, length, get_or, rules, ap, sym, subst, ◌∙◌, arith}
use Rattle.std.specs.Prelude.{slice_range}
use Rattle.fc_tree_node.specs.Node.{own_pairs, children_of, IsLevelled}
use Rattle.fc_tree_node.specs.Path.{IsPath}
use Rattle.fc_tree_node.proofs.Lists.{length_take}
use Rattle.fc_tree_node.proofs.PathSteps.{more_steps}
use Rattle.fc_tree_node.proofs.Lent.{lent_is, replaced}
use Rattle.fc_tree_node.proofs.Formed.{alike_both, alike_back}
use Rattle.fc_tree_split.specs.Cut.{IsEmpty}
use Rattle.fc_tree_node.proofs.MeasureFacts.{levelled_height}
use Rattle.fc_tree_split.proofs.Cuts.{IsForked, forked, IsForkedOn, forked_on, end_front, end_back, end_front_levels, end_back_levels, fork_front, fork_back}
use Rattle.fc_tree_split.proofs.Cuts.{fork_front_levels, fork_back_levels}
use Rattle.fc_tree_split.proofs.SplitBlocks.{empty_alone, forked_blocks, moved_blocks}
use Rattle.fc_tree_split.proofs.cutting.+cut_into.Given as given
use Rattle.fc_tree_split.proofs.cutting.+cut_into.Goals as goal
use Rattle.fc_tree_split.proofs.cutting.+cut_into.Goals.{After-child_in-other}

pub returns-then-path-eq1-clause-front : goal.returns-then-path-eq1-clause-front
returns-then-path-eq1-clause-front g t c =
    let m = c.move_suffix.ensures in
    end_front c.args.path.now c.args.node.now c.args.right.now _ c.move_suffix.new.other c.if-path-eq1.true c.requires.path m.pairs m.children

pub returns-then-path-eq1-clause-back : goal.returns-then-path-eq1-clause-back
returns-then-path-eq1-clause-back g t c =
    let m = c.move_suffix.ensures in
    end_back c.args.path.now c.args.node.now c.args.right.now c.move_suffix.new.self _ c.if-path-eq1.true c.requires.path _ c.requires.levels.3
    m.other_all_pairs

pub returns-then-path-eq1-clause-front_levels : goal.returns-then-path-eq1-clause-front_levels
returns-then-path-eq1-clause-front_levels g t c h l b =
    let m = c.move_suffix.ensures in
    end_front_levels c.args.path.now c.args.node.now c.args.right.now _ c.move_suffix.new.other c.if-path-eq1.true c.requires.path h l m.pairs m.children
    m.alike.0

pub returns-then-path-eq1-clause-back_levels : goal.returns-then-path-eq1-clause-back_levels
returns-then-path-eq1-clause-back_levels g t c h l b =
    let m = c.move_suffix.ensures in
    let alike = alike_both c.move_suffix.new.self _ _ (alike_back _ _ m.alike.0) m.alike.1 in
    end_back_levels c.args.path.now c.args.node.now c.args.right.now c.move_suffix.new.self _ c.if-path-eq1.true c.requires.path h l b m.other_pairs
    m.other_children alike

pub child_in-child-requires : goal.child_in-child-requires
child_in-child-requires g t c =
    let m = c.move_suffix.ensures in
    let w = c.requires.levels in
    let short = w.1 in
    let f = forked w.0 c.args.path.now _ c.args.right.now _ _ c.if-path-eq1.false
    (record { some = c.requires.some; short = omega arith; path = c.requires.path }) w.2 w.3 m.pairs m.children m.other_pairs m.other_children m.alike.0
    m.alike.1 in
    let inner : length (children_of c.move_suffix.new.self) ≡ length (own_pairs c.move_suffix.new.self) + 1 = f.left_inner in
    let long = ap length f.left_own ∙ length_take (get_or c.args.path.now 0 0) (own_pairs c.args.node.now) f.le in
    omega arith

fork : (g : given.Over) (t : ℕ) (c : After-child_in-other g t) (h : ℕ) → IsLevelled h c.args.node.now → IsEmpty h c.args.right.now
    → IsForked h c.args.path.now c.args.node.now c.move_suffix.new.self c.move_suffix.new.other
fork g t c h l b =
    let m = c.move_suffix.ensures in
    let w = c.requires.levels in
    let x = levelled_height h _ l in
    let y = levelled_height w.0 _ w.2 in
    let short = w.1 in
    forked h c.args.path.now _ c.args.right.now _ _ c.if-path-eq1.false (record { some = c.requires.some; short = omega arith; path = c.requires.path }) l b
    m.pairs m.children m.other_pairs m.other_children m.alike.0 m.alike.1

fork_on : (g : given.Over) (t : ℕ) (c : After-child_in-other g t) (h : ℕ) (l : IsLevelled h c.args.node.now) (b : IsEmpty h c.args.right.now)
    → IsForkedOn h c.args.path.now c.args.node.now c.move_suffix.new.self c.move_suffix.new.other (fork g t c h l b)
    c.child_in-child.result.now c.child_in-other.result.now
fork_on g t c h l b =
    forked_on h c.args.path.now c.args.node.now _ _ (fork g t c h l b) _ _ c.child_in-child.ensures.value c.child_in-other.ensures.value

pub cut_into-requires : goal.cut_into-requires
cut_into-requires g t c κs within =
    let w = c.requires.levels in
    let a = (goal.at.cut_into-requires g t c).After-child_in-other in
    let f = fork g t a w.0 w.2 w.3 in
    let d = fork_on g t a w.0 w.2 w.3 in
    let on = f.onward in
    let some = on.some in
    let long = ap length (more_steps c.args.path.now c.requires.some) in
    let falls : length (slice_range c.args.path.now 1 (length c.args.path.now)) < length c.args.path.now = omega arith in (
      search rules,
      (
        search rules,
        (
          search rules,
          (
            search rules,
            (on.some, (subst (IsPath _) (sym (d.is ∙ f.left_child)) on.path, (f.below, on.short, d.levels, d.empty))),
          ),
        ),
      ),
    )

pub returns-clause-front : goal.returns-clause-front
returns-clause-front g t c =
    let w = c.requires.levels in
    let a = (goal.at.returns-clause-front g t c).After-child_in-other in
    let set = replaced c.move_suffix.new.self (get_or c.args.path.now 0 0) c.cut_into.new.node in
    fork_front _ c.args.path.now _ _ _ (fork g t a w.0 w.2 w.3) _ _ _ set (fork_on g t a w.0 w.2 w.3).is c.cut_into.ensures.front

pub returns-clause-back : goal.returns-clause-back
returns-clause-back g t c =
    let w = c.requires.levels in
    let a = (goal.at.returns-clause-back g t c).After-child_in-other in
    let set = replaced c.move_suffix.new.other 0 c.cut_into.new.right in
    fork_back _ c.args.path.now _ _ _ (fork g t a w.0 w.2 w.3) _ _ _ set (fork_on g t a w.0 w.2 w.3).is c.cut_into.ensures.back

pub returns-clause-front_levels : goal.returns-clause-front_levels
returns-clause-front_levels g t c h l b =
    let a = (goal.at.returns-clause-front_levels g t c).After-child_in-other in
    let f = fork g t a h l b in
    let d = fork_on g t a h l b in
    let set = replaced c.move_suffix.new.self (get_or c.args.path.now 0 0) c.cut_into.new.node in
    fork_front_levels h c.args.path.now _ _ _ f _ _ set (c.cut_into.ensures.front_levels f.below d.levels d.empty)

pub returns-clause-back_levels : goal.returns-clause-back_levels
returns-clause-back_levels g t c h l b =
    let a = (goal.at.returns-clause-back_levels g t c).After-child_in-other in
    let f = fork g t a h l b in
    let d = fork_on g t a h l b in
    let set = replaced c.move_suffix.new.other 0 c.cut_into.new.right in
    fork_back_levels h c.args.path.now _ _ _ f _ _ set (c.cut_into.ensures.back_levels f.below d.levels d.empty)

pub returns-then-path-eq1-clause-blocks : goal.returns-then-path-eq1-clause-blocks
returns-then-path-eq1-clause-blocks g t c =
    let m = c.move_suffix.ensures in
    let w = c.requires.levels in
    moved_blocks (get_or c.args.path.now 0 0) _ _ _ _ (empty_alone w.0 _ _ w.2 w.3) m.alike.0 m.alike.1 m.children m.other_children

pub returns-clause-blocks : goal.returns-clause-blocks
returns-clause-blocks g t c =
    let m = c.move_suffix.ensures in
    let w = c.requires.levels in
    let a = (goal.at.returns-clause-blocks g t c).After-child_in-other in
    let f = fork g t a w.0 w.2 w.3 in
    let d = fork_on g t a w.0 w.2 w.3 in
    let inner : length (children_of c.move_suffix.new.self) ≡ length (own_pairs c.move_suffix.new.self) + 1 = f.left_inner in
    let other : length (children_of c.move_suffix.new.other) ≡ length (own_pairs c.move_suffix.new.other) + 1 = f.right_inner in
    let long = ap length f.left_own ∙ length_take (get_or c.args.path.now 0 0) (own_pairs c.args.node.now) f.le in
    let moved = moved_blocks (get_or c.args.path.now 0 0) _ _ _ _ (empty_alone w.0 _ _ w.2 w.3) m.alike.0 m.alike.1 m.children m.other_children in
    let forked = forked_blocks c.move_suffix.new.self c.move_suffix.new.other _ _ _ c.child_in-other.result.now c.cut_into.new.node c.cut_into.new.right
    (get_or c.args.path.now 0 0) (omega (arith, inner, long)) (omega (arith, other)) (replaced _ _ _) (replaced _ _ _) d.is
    (lent_is c.move_suffix.new.other 0 c.child_in-other.result.now f.right_inner (omega arith) c.child_in-other.ensures.value) c.cut_into.ensures.blocks
    in
    omega (arith, moved, forked)
