use Rattle.std.proofs.Common.{◌≡◌, ◌+◌, ◌++◌, arith, length, sym, ◌∙◌}
use Rattle.fc_tree_node.specs.Tree.{entries}
use Rattle.fc_tree_split.proofs.Parts.{cut_parts, parts_length}
use Rattle.fc_tree_split.proofs.cutting.try_split_counted.Given as given
use Rattle.fc_tree_split.proofs.cutting.try_split_counted.Goals as goal
use Rattle.fc_tree_split.proofs.cutting.try_split_counted.Goals.{In_ok-right, then-is_left_smaller, else-is_left_smaller}

parts : (g : given.Over) (c : In_ok-right g) → entries c.try_split.new.root ++ entries c.in_ok-right.right ≡ entries c.args.root.now
parts g c = cut_parts c.args.root.now _ _ c.args.path.now c.requires.sound c.requires.path c.in_ok-right.ensures.pairs

both : (g : given.Over) (c : In_ok-right g) → length (entries c.try_split.new.root) + length (entries c.in_ok-right.right) ≡ c.args.len
both g c = parts_length (entries c.try_split.new.root) _ _ (parts g c) ∙ sym c.requires.len

pub count_in-requires-clause-fits : goal.count_in-requires-clause-fits
count_in-requires-clause-fits g c =
    let b = both g (goal.at.count_in-requires-clause-fits g c).In_ok-right in
    omega arith

pub overflow_sub-moved : goal.overflow_sub-moved
overflow_sub-moved g c =
    let b = both g (goal.at.overflow_sub-moved g c).In_ok-right in
    omega arith

pub count_in-moved-requires-clause-fits : goal.count_in-moved-requires-clause-fits
count_in-moved-requires-clause-fits g c =
    let b = both g (goal.at.count_in-moved-requires-clause-fits g c).In_ok-right in
    omega arith

pub returns-clause-parts : goal.returns-clause-parts
returns-clause-parts g c = parts g (goal.at.returns-clause-parts g c).In_ok-right

pub returns-clause-moved : goal.returns-clause-moved
returns-clause-moved g c =
    let b = both g (goal.at.returns-clause-moved g c).In_ok-right in
    elim c.if-is_left_smaller.branch as (λ _. c.if-is_left_smaller.moved ≡ length (entries c.in_ok-right.right)) [
      | then-is_left_smaller w ↦ (omega arith)
      | else-is_left_smaller w ↦ (omega arith)
    ]

pub returns-clause-kept : goal.returns-clause-kept
returns-clause-kept g c =
    let b = both g (goal.at.returns-clause-kept g c).In_ok-right in
    let moved = returns-clause-moved g c in
    omega arith
