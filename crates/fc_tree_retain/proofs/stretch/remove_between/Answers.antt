use Rattle.fc_tree_retain.proofs.Between.{none_stays, none_between}
use Rattle.fc_tree_retain.proofs.stretch.remove_between.Goals as goal

pub returns-clause-removed : goal.returns-clause-removed
returns-clause-removed g c =
    let e = c.filter_tree_range.ensures.filtered in
    none_between c.args.tree.now _ c.args.front.now c.args.back.now e.1 (none_stays _ e.1 _ _ e.2) e.3
