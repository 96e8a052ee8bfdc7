use Rattle.std.proofs.Common.{◌+◌, length, inr, sym, ap, ◌∙◌, arith}
use Rattle.std.specs.List.{insert}
use Rattle.fc_tree_node.proofs.Made.{own_made, halves_made, inner_made, children_joined, children_in}
use Rattle.fc_tree_node.proofs.Places.{halves_pairs}
use Rattle.fc_tree_node.proofs.node.Node.split_inner.Goals as goal

pub returns-clause-children : goal.returns-clause-children
returns-clause-children g c =
    children_joined _ _ c.in-Some.children _ _ c.split_children.ensures.items
    ∙ ap (λ cs. insert cs (c.args.index + 1) c.args.child) (sym (children_in _ _ c.in-Some.is))

pub returns-clause-inner : goal.returns-clause-inner
returns-clause-inner g c = (inner_made _ (omega arith), inner_made _ (omega arith))

pub returns-clause-all_pairs : goal.returns-clause-all_pairs
returns-clause-all_pairs g c =
    halves_pairs c.args.self.now c.args.index c.requires.inner (omega arith) _ _ c.args.child c.split_pairs-up.result c.args.pair
    (inr (returns-clause-inner g c)) (halves_made _ _ _ _ c.split_pairs-up.ensures.items) (returns-clause-children g c)

pub returns-clause-left : goal.returns-clause-left
returns-clause-left g c = ap length (own_made _) ∙ c.split_pairs-up.ensures.left

pub returns-clause-right : goal.returns-clause-right
returns-clause-right g c = ap length (own_made _) ∙ c.split_pairs-up.ensures.right
