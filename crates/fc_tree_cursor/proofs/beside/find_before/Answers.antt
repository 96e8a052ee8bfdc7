use Rattle.std.proofs.Common.{Some, subst, arith}
use Rattle.fc_tree_cursor.specs.Beside.{IsLastIn}
use Rattle.fc_tree_cursor.proofs.Places.{IsAtPair, at_pair, gone, found_counts, gap_counts}
use Rattle.fc_tree_cursor.proofs.beside.find_before.Given as given
use Rattle.fc_tree_cursor.proofs.beside.find_before.Goals as goal
use Rattle.fc_tree_cursor.proofs.beside.find_before.Goals.{In-Ok}

-- the path leads to a pair of the node that holds the key
at_found : (g : given.Over) (c : In-Ok g) → IsAtPair c.descend.new.path c.args.root.now c.in-Ok.holder.now
at_found g c =
    at_pair c.descend.new.path c.args.root.now c.in-Ok.holder.now c.requires.levels c.in-Ok.ensures.found.place c.in-Ok.ensures.node

pub next_back_leaf_edge-requires-clause-own : goal.next_back_leaf_edge-requires-clause-own
next_back_leaf_edge-requires-clause-own g c =
    (at_found g (goal.at.next_back_leaf_edge-requires-clause-own g c).In-Ok).own

pub next_back_leaf_edge-requires-clause-levels : goal.next_back_leaf_edge-requires-clause-levels
next_back_leaf_edge-requires-clause-levels g c =
    (at_found g (goal.at.next_back_leaf_edge-requires-clause-levels g c).In-Ok).levels

pub next_back_kv-requires-clause-gap : goal.next_back_kv-requires-clause-gap
next_back_kv-requires-clause-gap g c =
    let p = c.descend.new.path in
    let root = c.args.root.now in
    let a = at_found g (goal.at.next_back_kv-requires-clause-gap g c).In-Ok in
    (gone p c.next_back_leaf_edge.new.path root c.in-Ok.holder.now _ c.requires.levels a c.next_back_leaf_edge.ensures).slot

pub returns-in-Ok-clause-place : goal.returns-in-Ok-clause-place
returns-in-Ok-clause-place g c =
    let p = c.descend.new.path in
    let root = c.args.root.now in
    let a = at_found g (goal.at.returns-in-Ok-clause-place g c).In-Ok in
    let on = (gone p c.next_back_leaf_edge.new.path root c.in-Ok.holder.now _ c.requires.levels a c.next_back_leaf_edge.ensures).count_is in
    let all = a.count in
    let n = (found_counts g.Q.Query.order (g.Q.Query.sought c.args.key) p root c.requires.levels c.in-Ok.ensures.found).0 in
    subst (IsLastIn c.next_back_kv.result (Some root) c.next_back_kv.new.path) (omega (arith, on, all, n)) c.next_back_kv.ensures

pub returns-in-Err-clause-place : goal.returns-in-Err-clause-place
returns-in-Err-clause-place g c =
    let n = (gap_counts g.Q.Query.order (g.Q.Query.sought c.args.key) c.descend.new.path c.args.root.now c.requires.levels c.in-Err.ensures.gap).0 in
    subst (IsLastIn c.next_back_kv-in-Err.result (Some c.args.root.now) c.next_back_kv-in-Err.new.path) n c.next_back_kv-in-Err.ensures
