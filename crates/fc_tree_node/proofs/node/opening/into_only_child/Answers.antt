use Rattle.fc_tree_node.proofs.Heir.{only_one}
use Rattle.fc_tree_node.proofs.node.opening.into_only_child.Goals as goal

pub returns : goal.returns
returns g c =
    only_one c.args.root _ c.remove.result c.in-Some.is c.requires.formed c.requires.none c.remove.ensures.value
