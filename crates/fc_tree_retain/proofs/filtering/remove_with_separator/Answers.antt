use Rattle.std.proofs.Common.{sym, ap, ◌∙◌}
use Rattle.std.specs.List.{remove}
use Rattle.fc_tree_node.proofs.Made.{children_made, children_in}
use Rattle.fc_tree_retain.proofs.filtering.remove_with_separator.Goals as goal

pub returns-clause-children : goal.returns-clause-children
returns-clause-children g c =
    children_made _ ∙ c.remove.ensures.items ∙ ap (λ cs. remove cs c.args.index) (sym (children_in c.args.node.now _ c.in-Some.is))
