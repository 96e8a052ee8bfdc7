use Rattle.std.proofs.Common.{arith}
use Rattle.fc_tree_node.proofs.Heir.{levelled_formed, heir_pairs}
use Rattle.fc_tree_removal.proofs.Removed.{heir_left}
use Rattle.fc_tree_node.proofs.SiblingBlocks.{heir_blocks}
use Rattle.fc_tree_removal.proofs.removal.without_empty_root.Goals as goal

pub into_only_child-requires-clause-formed : goal.into_only_child-requires-clause-formed
into_only_child-requires-clause-formed g c = levelled_formed c.requires.0 c.args.root c.requires.1

pub returns-clause-pairs : goal.returns-clause-pairs
returns-clause-pairs g c = heir_pairs c.into_only_child.result c.args.root (omega arith) c.into_only_child.ensures

pub returns-clause-levels : goal.returns-clause-levels
returns-clause-levels g c h l = heir_left c.into_only_child.result h c.args.root c.into_only_child.ensures l

pub returns-clause-blocks : goal.returns-clause-blocks
returns-clause-blocks g c = heir_blocks c.into_only_child.result c.args.root c.into_only_child.ensures
