use Rattle.std.proofs.Common.{◌≡◌, ◌+◌, arith}
use Rattle.fc_tree_node.specs.Node.{child_at}
use Rattle.fc_tree_node.proofs.Made.{inner_length}
use Rattle.fc_tree_node.proofs.Shared.{listed_child, kept_child, merge_made}
use Rattle.fc_tree_node.proofs.Siblings.{merged_inner, merged_pairs}
use Rattle.fc_tree_node.proofs.node.Node.merge.Given as given
use Rattle.fc_tree_node.proofs.node.Node.merge.Goals as goal
use Rattle.fc_tree_node.proofs.node.Node.merge.Goals.{After-get_mut-left}

siblings : (g : given.Over) (c : After-get_mut-left g) → (c.get_mut-left.result.now ≡ child_at c.args.self.now c.args.index)
    × (c.remove-right.result ≡ child_at c.args.self.now (c.args.index + 1))
siblings g c =
    let n = inner_length c.args.self.now _ c.in-Some.is c.requires.inner in (
      kept_child c.args.self.now c.args.index _ c.in-Some.is _ _ (omega arith) c.remove-right.ensures.items c.get_mut-left.ensures.value,
      listed_child c.args.self.now c.args.index _ c.in-Some.is (c.args.index + 1) _ (omega arith) c.remove-right.ensures.value,
    )

pub join-requires-clause-alike : goal.join-requires-clause-alike
join-requires-clause-alike g c =
    let e = siblings g (goal.at.join-requires-clause-alike g c).After-get_mut-left in
    rw (e.0, e.1) c.requires.alike

pub join-requires-clause-room : goal.join-requires-clause-room
join-requires-clause-room g c =
    let e = siblings g (goal.at.join-requires-clause-room g c).After-get_mut-left in
    rw (e.0, e.1) c.requires.room

pub returns-clause-merged : goal.returns-clause-merged
returns-clause-merged g c =
    let e = siblings g (goal.at.returns-clause-merged g c).After-get_mut-left in
    merge_made c.args.self.now c.args.index _ c.in-Some.is _ c.remove-pair.result _ _ c.requires.in_bounds c.remove-pair.ensures.items
    c.remove-right.ensures.items c.remove-pair.ensures.value
    (rw (← e.0, ← e.1) c.join.ensures.pairs) (rw (← e.0, ← e.1) c.join.ensures.children) (rw (← e.0) c.join.ensures.alike)

pub returns-clause-inner : goal.returns-clause-inner
returns-clause-inner g c = merged_inner _ _ c.requires.inner c.requires.in_bounds _ (returns-clause-merged g c)

pub returns-clause-all_pairs : goal.returns-clause-all_pairs
returns-clause-all_pairs g c = merged_pairs _ _ c.requires.inner c.requires.in_bounds _ c.remove-pair.result c.requires.alike (returns-clause-merged g c)
