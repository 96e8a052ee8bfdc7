use Rattle.std.proofs.Common.{rules, arith, ◌-◌, ◌<◌, ◌++◌, length, sym, ap, ◌∙◌, length-append}
use Rattle.std.proofs.lemmas.List.{nil_from_length}
use Rattle.fc_base.specs.Sizes.{most_levels}
use Rattle.fc_tree_drain.specs.Opened.{after_front}
use Rattle.fc_tree_drain.proofs.Opening.{under_room, under_levels, under_first, first_opened, leaf_own, under_few, first_even, even_push}
use Rattle.fc_tree_drain.proofs.OpenedBlocks.{some_block, taken_blocks, pushed_blocks}
use Rattle.fc_tree_drain.proofs.owned.+open_first.Goals as goal

pub returns-then-child_count-eq0-clause-pairs : goal.returns-then-child_count-eq0-clause-pairs
returns-then-child_count-eq0-clause-pairs g t c =
    ap (λ zs. zs ++ after_front c.args.stack.now) (c.into_run.ensures ∙ sym (leaf_own c.args.node (nil_from_length _ (omega arith))))

pub returns-then-child_count-eq0-clause-levels : goal.returns-then-child_count-eq0-clause-levels
returns-then-child_count-eq0-clause-levels g t c = under_levels c.args.node _ c.requires

pub returns-then-child_count-eq0-clause-some : goal.returns-then-child_count-eq0-clause-some
returns-then-child_count-eq0-clause-some g t c = let e = ap length c.into_run.ensures in omega arith

pub push-requires : goal.push-requires
push-requires g t c = (search rules, under_room _ _ c.requires)

pub open_first-requires : goal.open_first-requires
open_first-requires g t c κs within =
    let r = under_room _ _ c.requires in
    let e = ap length c.push.ensures ∙ length-append c.args.stack.now _ in
    let falls : most_levels - length c.push.new.self < most_levels - length c.args.stack.now = omega arith in
    let u = under_first c.args.node _ _ _ _ c.requires c.take_first_child-child.ensures.children c.take_first_child-child.ensures.pairs c.push.ensures in
    (search rules, (search rules, (search rules, (search rules, (search rules, u)))))

pub returns-clause-pairs : goal.returns-clause-pairs
returns-clause-pairs g t c =
    first_opened c.args.node _ _ _ _ _ c.take_first_child-child.ensures.children c.take_first_child-child.ensures.pairs c.push.ensures
    c.open_first.ensures.pairs

pub returns-then-child_count-eq0-clause-fits : goal.returns-then-child_count-eq0-clause-fits
returns-then-child_count-eq0-clause-fits g t c =
    let e = ap length c.into_run.ensures in
    let few = under_few c.args.node _ c.requires in
    omega arith

pub returns-clause-even : goal.returns-clause-even
returns-clause-even g t c a =
    let q = c.take_first_child-child.ensures in
    c.open_first.ensures.even (even_push c.args.stack.now _ _ c.push.ensures (first_even c.args.node _ _ _ c.requires q.children q.pairs) a)

pub returns-then-child_count-eq0-clause-blocks : goal.returns-then-child_count-eq0-clause-blocks
returns-then-child_count-eq0-clause-blocks g t c = omega (arith, some_block c.args.node)

pub returns-clause-blocks : goal.returns-clause-blocks
returns-clause-blocks g t c =
    let taken = taken_blocks c.args.node _ _ c.take_first_child-child.ensures.children in
    let pushed = pushed_blocks c.args.stack.now _ _ c.push.ensures in
    omega (arith, taken, pushed, c.open_first.ensures.blocks)
