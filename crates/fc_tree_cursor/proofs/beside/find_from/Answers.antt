use Rattle.std.proofs.Common.{Some, subst}
use Rattle.fc_tree_cursor.specs.Beside.{IsNextIn}
use Rattle.fc_tree_cursor.proofs.Places.{next_there, found_counts, gap_counts}
use Rattle.fc_tree_cursor.proofs.beside.find_from.Goals as goal

pub returns-in-Ok-clause-place : goal.returns-in-Ok-clause-place
returns-in-Ok-clause-place g c =
    let f = c.in-Ok.ensures.found in
    let n = (found_counts g.Q.Query.order (g.Q.Query.sought c.args.key) c.descend.new.path c.args.root.now c.requires.levels f).0 in
    next_there (Some c.args.root.now) c.descend.new.path _ f.place n

pub returns-in-Err-clause-place : goal.returns-in-Err-clause-place
returns-in-Err-clause-place g c =
    let n = (gap_counts g.Q.Query.order (g.Q.Query.sought c.args.key) c.descend.new.path c.args.root.now c.requires.levels c.in-Err.ensures.gap).0 in
    subst (IsNextIn c.next_kv.result (Some c.args.root.now) c.next_kv.new.path) n c.next_kv.ensures
