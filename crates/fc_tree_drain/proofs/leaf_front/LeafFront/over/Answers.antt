use Rattle.std.proofs.Common.{◌<◌, ◌≤◌, ◌++◌, inl, inr, length, sym, ap, subst, ◌∙◌, append-nil, arith}
use Rattle.fc_base.specs.Sizes.{capacity, most_levels}
use Rattle.fc_tree_node.specs.Node.{pairs_of, items_or_none}
use Rattle.fc_tree_node.specs.Tree.{entries}
use Rattle.fc_tree_drain.specs.Opened.{IsFalling, AreEven, after_front}
use Rattle.fc_tree_node.specs.Blocks.{blocks_in}
use Rattle.fc_tree_node.proofs.BlockFacts.{all_blocks}
use Rattle.fc_tree_drain.specs.LeafFront.{leaf_blocks}
use Rattle.fc_tree_drain.proofs.LeafFronts.{some_leaf, open_leaf, few_blocks}
use Rattle.fc_tree_drain.proofs.leaf_front.LeafFront.over.Goals as goal
use Rattle.fc_tree_drain.proofs.leaf_front.LeafFront.over.Goals.{in-Some, in_default}

pub returns-clause-pairs : goal.returns-clause-pairs
returns-clause-pairs g c =
    let s = c.match-root in
    elim s.branch [
      | in-Some w ↦
          ap (λ r. items_or_none r ++ after_front s.nodes) w.run-is ∙ ap (λ n. items_or_none w.open_first.new.run ++ after_front n) w.nodes-is
          ∙ w.open_first.ensures.pairs ∙ ap (λ n. pairs_of w.in-Some.root ++ after_front n) c.new-nodes.ensures
          ∙ append-nil (pairs_of w.in-Some.root) ∙ sym (ap entries w.in-Some.is)
      | in_default w ↦
          ap (λ r. items_or_none r ++ after_front s.nodes) w.run-is ∙ ap after_front w.nodes-is ∙ ap after_front c.new-nodes.ensures
          ∙ sym (ap entries w.in_default.is)
    ]

pub invariant_of-result : goal.invariant_of-result
invariant_of-result g c =
    let s = c.match-root in
    elim s.branch [
      | in-Some w ↦ (
        subst (IsFalling 0 most_levels) (sym w.nodes-is) w.open_first.ensures.levels,
        subst AreEven (sym w.nodes-is) (w.open_first.ensures.even (subst AreEven (sym c.new-nodes.ensures) tt)),
        some_leaf s.run s.nodes (inl (subst (λ r. 0 < length (items_or_none r)) (sym w.run-is) w.open_first.ensures.some)),
        subst (λ r. length (items_or_none r) ≤ capacity) (sym w.run-is) w.open_first.ensures.fits,
      )
      | in_default w ↦ (
          let none = w.nodes-is ∙ c.new-nodes.ensures in
          let few = ap (λ r. length (items_or_none r)) w.run-is in
          (subst (IsFalling 0 most_levels) (sym none) (omega arith), subst AreEven (sym none) tt, some_leaf s.run s.nodes (inr none), omega arith)
          )
    ]

pub returns-clause-leaf : goal.returns-clause-leaf
returns-clause-leaf g c = let i = invariant_of-result g c in open_leaf c.match-root.run c.match-root.nodes i.3

pub returns-clause-blocks : goal.returns-clause-blocks
returns-clause-blocks g c =
    let s = c.match-root in
    let none = ap (λ n. all_blocks n) c.new-nodes.ensures in
    elim s.branch [
      | in-Some w ↦ (
          let nodes = ap (λ n. all_blocks n) w.nodes-is in
          let root = ap (λ o. blocks_in o) w.in-Some.is in
          let few = few_blocks s.run in
          omega (arith, none, nodes, root, few, w.open_first.ensures.blocks)
          )
      | in_default w ↦ (
          let nodes = ap (λ n. all_blocks n) w.nodes-is in
          let run = ap (λ r. leaf_blocks r) w.run-is in
          omega (arith, none, nodes, run)
          )
    ]
