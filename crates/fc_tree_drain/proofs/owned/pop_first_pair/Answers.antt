use Rattle.std.proofs.Common.{rules, arith, length, ◌∷◌, ◌++◌, sym, ap, ◌∙◌}
use Rattle.fc_tree_drain.specs.Opened.{after_front}
use Rattle.fc_tree_drain.proofs.Opening.{top_some, IsGiven, given_leaf, given_first, given_under, kept_levels, gave_first, gave_first_alone, even_pop}
use Rattle.fc_tree_drain.proofs.OpenedBlocks.{taken_blocks, pushed_blocks}
use Rattle.fc_tree_drain.proofs.owned.pop_first_pair.Given as given
use Rattle.fc_tree_drain.proofs.owned.pop_first_pair.Goals as goal
use Rattle.fc_tree_drain.proofs.owned.pop_first_pair.Goals.{After-take_first_child-child}

-- what is left of the node, once its child is out too
left : (g : given.Over) (c : goal.After-take_first_child-child g)
    → IsGiven c.take_first_child-child.new.self c.take_first_child-child.result c.pop-node.new.self
left g c =
    let p = c.take_first_pair-pair.ensures in
    let q = c.take_first_child-child.ensures in
    given_first _ _ c.pop-node.result c.take_first_pair-pair.new.self _ _ _ c.requires.levels c.pop-node.ensures p.pairs p.children q.children q.pairs

pub take_first_pair-pair-requires : goal.take_first_pair-pair-requires
take_first_pair-pair-requires g c = top_some _ _ _ c.requires.levels c.pop-node.ensures

pub keep-requires : goal.keep-requires
keep-requires g c =
    (search rules, given_leaf _ _ _ _ c.requires.levels c.pop-node.ensures c.take_first_pair-pair.ensures.children (omega arith))

pub returns-then-child_count-eq0-clause-pairs : goal.returns-then-child_count-eq0-clause-pairs
returns-then-child_count-eq0-clause-pairs g c =
    let pair = c.take_first_pair-pair.result in
    let p = c.take_first_pair-pair.ensures in
    gave_first_alone c.args.stack.now _ c.keep.new.stack _ _ pair c.pop-node.ensures p.pairs p.children (omega arith) c.keep.ensures.front
    ∙ ap (λ zs. pair ∷ (zs ++ after_front c.keep.new.stack)) (sym c.requires.used_up)

pub returns-then-child_count-eq0-clause-levels : goal.returns-then-child_count-eq0-clause-levels
returns-then-child_count-eq0-clause-levels g c =
    let n = c.take_first_pair-pair.new.self in
    kept_levels n _ _ (given_leaf _ _ _ n c.requires.levels c.pop-node.ensures c.take_first_pair-pair.ensures.children (omega arith)) c.keep.ensures.levels

pub keep-requires-2 : goal.keep-requires-2
keep-requires-2 g c = let i = left g (goal.at.keep-requires-2 g c).After-take_first_child-child in (search rules, (i.level, i.opened, i.rest))

pub open_first-requires : goal.open_first-requires
open_first-requires g c =
    (search rules, given_under _ _ _ _ (left g (goal.at.open_first-requires g c).After-take_first_child-child) c.keep-2.ensures.levels)

pub returns-clause-pairs : goal.returns-clause-pairs
returns-clause-pairs g c =
    let p = c.take_first_pair-pair.ensures in
    let q = c.take_first_child-child.ensures in
    gave_first c.args.stack.now _ c.keep-2.new.stack _ _ _ _ _ c.take_first_pair-pair.result c.pop-node.ensures p.pairs p.children q.children q.pairs
    c.keep-2.ensures.front c.open_first.ensures.pairs

pub returns-then-child_count-eq0-clause-fits : goal.returns-then-child_count-eq0-clause-fits
returns-then-child_count-eq0-clause-fits g c = let none = ap length c.requires.used_up in omega arith

pub returns-then-child_count-eq0-clause-even : goal.returns-then-child_count-eq0-clause-even
returns-then-child_count-eq0-clause-even g c a =
    let some = top_some _ _ _ c.requires.levels c.pop-node.ensures in
    let same = (even_pop _ _ _ c.pop-node.ensures a).1 in
    let child = ap length c.take_first_pair-pair.ensures.children in
    absurd (omega arith)

pub returns-clause-even : goal.returns-clause-even
returns-clause-even g c a =
    let even = even_pop _ _ _ c.pop-node.ensures a in
    let p = c.take_first_pair-pair.ensures in
    let q = c.take_first_child-child.ensures in
    let pairs = ap length p.pairs in
    let children = ap length p.children in
    let child = ap length q.children in
    let same = ap length q.pairs in
    (c.open_first.ensures.even (c.keep-2.ensures.even (omega arith) even.0), c.open_first.ensures.some)

pub returns-then-child_count-eq0-clause-blocks : goal.returns-then-child_count-eq0-clause-blocks
returns-then-child_count-eq0-clause-blocks g c a =
    let some = top_some _ _ _ c.requires.levels c.pop-node.ensures in
    let same = (even_pop _ _ _ c.pop-node.ensures a).1 in
    let child = ap length c.take_first_pair-pair.ensures.children in
    absurd (omega arith)

pub returns-clause-blocks : goal.returns-clause-blocks
returns-clause-blocks g c a =
    let popped = pushed_blocks _ c.args.stack.now _ c.pop-node.ensures in
    let taken = taken_blocks c.pop-node.result _ _ (sym c.take_first_pair-pair.ensures.children ∙ c.take_first_child-child.ensures.children) in
    omega (arith, popped, taken, c.keep-2.ensures.blocks, c.open_first.ensures.blocks)
