use Rattle.std.proofs.Common.{Some, subst, arith}
use Rattle.fc_tree_cursor.specs.Beside.{IsNextIn}
use Rattle.fc_tree_cursor.proofs.Places.{IsAtPair, at_pair, gone, gone_leaf, found_counts, gap_counts}
use Rattle.fc_tree_cursor.proofs.beside.find_after.Given as given
use Rattle.fc_tree_cursor.proofs.beside.find_after.Goals as goal
use Rattle.fc_tree_cursor.proofs.beside.find_after.Goals.{In-Ok}

-- the path leads to a pair of the node that holds the key
at_found : (g : given.Over) (c : In-Ok g) → IsAtPair c.descend.new.path c.args.root.now c.in-Ok.holder.now
at_found g c =
    at_pair c.descend.new.path c.args.root.now c.in-Ok.holder.now c.requires.levels c.in-Ok.ensures.found.place c.in-Ok.ensures.node

pub next_leaf_edge-leaf-requires-clause-own : goal.next_leaf_edge-leaf-requires-clause-own
next_leaf_edge-leaf-requires-clause-own g c =
    (at_found g (goal.at.next_leaf_edge-leaf-requires-clause-own g c).In-Ok).own

pub next_leaf_edge-leaf-requires-clause-levels : goal.next_leaf_edge-leaf-requires-clause-levels
next_leaf_edge-leaf-requires-clause-levels g c =
    (at_found g (goal.at.next_leaf_edge-leaf-requires-clause-levels g c).In-Ok).levels

pub next_kv-requires-clause-gap : goal.next_kv-requires-clause-gap
next_kv-requires-clause-gap g c =
    let p = c.descend.new.path in
    let root = c.args.root.now in
    let a = at_found g (goal.at.next_kv-requires-clause-gap g c).In-Ok in
    (gone p c.next_leaf_edge-leaf.new.path root c.in-Ok.holder.now _ c.requires.levels a c.next_leaf_edge-leaf.ensures.gap).slot

pub next_kv-requires-clause-leaf : goal.next_kv-requires-clause-leaf
next_kv-requires-clause-leaf g c =
    let p = c.descend.new.path in
    let root = c.args.root.now in
    let a = at_found g (goal.at.next_kv-requires-clause-leaf g c).In-Ok in
    gone_leaf p c.next_leaf_edge-leaf.new.path root c.in-Ok.holder.now c.next_leaf_edge-leaf.result.now _ a c.next_leaf_edge-leaf.ensures.gap
    c.next_leaf_edge-leaf.ensures.leaf

pub returns-in-Ok-clause-place : goal.returns-in-Ok-clause-place
returns-in-Ok-clause-place g c =
    let p = c.descend.new.path in
    let root = c.args.root.now in
    let a = at_found g (goal.at.returns-in-Ok-clause-place g c).In-Ok in
    let on = (gone p c.next_leaf_edge-leaf.new.path root c.in-Ok.holder.now _ c.requires.levels a c.next_leaf_edge-leaf.ensures.gap).count_is in
    let all = a.count in
    let n = (found_counts g.Q.Query.order (g.Q.Query.sought c.args.key) p root c.requires.levels c.in-Ok.ensures.found).1 in
    subst (IsNextIn c.next_kv.result (Some root) c.next_kv.new.path) (omega (arith, on, all, n)) c.next_kv.ensures

pub returns-in-Err-clause-place : goal.returns-in-Err-clause-place
returns-in-Err-clause-place g c =
    let n = (gap_counts g.Q.Query.order (g.Q.Query.sought c.args.key) c.descend.new.path c.args.root.now c.requires.levels c.in-Err.ensures.gap).1 in
    subst (IsNextIn c.next_kv-in-Err.result (Some c.args.root.now) c.next_kv-in-Err.new.path) n c.next_kv-in-Err.ensures
