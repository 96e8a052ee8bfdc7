use Rattle.std.proofs.Common.{Some, subst}
use Rattle.fc_tree_cursor.specs.Beside.{IsLastIn}
use Rattle.fc_tree_cursor.proofs.Places.{last_there, found_counts, gap_counts}
use Rattle.fc_tree_cursor.proofs.beside.find_to.Goals as goal

pub returns-in-Ok-clause-place : goal.returns-in-Ok-clause-place
returns-in-Ok-clause-place g c =
    let f = c.in-Ok.ensures.found in
    let n = (found_counts g.Q.Query.order (g.Q.Query.sought c.args.key) c.descend.new.path c.args.root.now c.requires.levels f).1 in
    last_there (Some c.args.root.now) c.descend.new.path _ f.place n

pub returns-in-Err-clause-place : goal.returns-in-Err-clause-place
returns-in-Err-clause-place g c =
    let n = (gap_counts g.Q.Query.order (g.Q.Query.sought c.args.key) c.descend.new.path c.args.root.now c.requires.levels c.in-Err.ensures.gap).1 in
    subst (IsLastIn c.next_back_kv.result (Some c.args.root.now) c.next_back_kv.new.path) n c.next_back_kv.ensures
