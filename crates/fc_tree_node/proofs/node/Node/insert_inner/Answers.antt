use Rattle.std.proofs.Common.{◌+◌, length, sym, ap, ◌∙◌, arith}
use Rattle.std.specs.List.{insert}
use Rattle.std.proofs.lemmas.List.Edits.{length-insert}
use Rattle.fc_tree_node.proofs.Made.{own_made, children_made, inner_made, children_in, inner_length}
use Rattle.fc_tree_node.proofs.Places.{inserted_pairs}
use Rattle.fc_tree_node.proofs.node.Node.insert_inner.Goals as goal

pub returns-clause-children : goal.returns-clause-children
returns-clause-children g c =
    children_made _ ∙ c.insert-2.ensures ∙ ap (λ cs. insert cs (c.args.index + 1) c.args.child) (sym (children_in _ _ c.in-Some.is))

pub returns-clause-inner : goal.returns-clause-inner
returns-clause-inner g c =
    let n = inner_length c.args.self.now _ c.in-Some.is c.requires.inner in
    let p = ap length c.insert.ensures.items in
    let q = ap length c.insert-2.ensures in
    inner_made _ (grind (arith, length-insert))

pub returns-clause-all_pairs : goal.returns-clause-all_pairs
returns-clause-all_pairs g c =
    inserted_pairs c.args.self.now c.args.index c.requires.inner c.requires.in_bounds _ c.args.child c.args.pair (own_made _ ∙ c.insert.ensures.items)
    (returns-clause-children g c)
