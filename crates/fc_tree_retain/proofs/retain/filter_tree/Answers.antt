use Rattle.std.proofs.Common.{arith}
use Rattle.fc_tree_retain.specs.Filtered.{FiltersPair}
use Rattle.fc_tree_retain.proofs.Kept.{kept_ascending, kept_length}
use Rattle.fc_tree_retain.proofs.retain.filter_tree.Goals as goal

pub count_in-requires-clause-fits : goal.count_in-requires-clause-fits
count_in-requires-clause-fits g c =
    let k = kept_length (FiltersPair g.S.Filter.asked g.S.Filter.given) _ _ _ _ c.filter_root.ensures.filtered in
    omega arith

pub returns-clause-ascending : goal.returns-clause-ascending
returns-clause-ascending g c cmp a = kept_ascending (FiltersPair g.S.Filter.asked g.S.Filter.given) cmp _ _ _ _ c.filter_root.ensures.filtered a
