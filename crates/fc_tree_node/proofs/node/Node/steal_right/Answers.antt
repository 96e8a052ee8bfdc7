use Rattle.std.proofs.Common.{◌+◌, length, subst, arith}
use Rattle.fc_tree_node.specs.declared.node.Node.{Node}
use Rattle.fc_tree_node.specs.Node.{own_pairs, child_at}
use Rattle.fc_tree_node.proofs.Made.{inner_length}
use Rattle.fc_tree_node.proofs.Shared.{listed_child, last_child, share_made_back, IsTrade, traded_left}
use Rattle.fc_tree_node.proofs.Siblings.{shared_inner, shared_pairs}
use Rattle.fc_tree_node.proofs.node.Node.steal_right.Goals as goal

pub returns-clause-shared : goal.returns-clause-shared
returns-clause-shared g c =
    let n = inner_length c.args.self.now _ c.in-Some.is c.requires.inner in
    let r = listed_child c.args.self.now c.args.index _ c.in-Some.is (c.args.index + 1) c.get_mut-right.result.now (omega arith)
    c.get_mut-right.ensures.value in
    let l = last_child c.args.self.now c.args.index _ c.in-Some.is _ c.get_mut-left.result.now (omega arith) c.get_mut-left.ensures.value in
    let P : Node g.row.K.Denot g.row.V.Denot g.row.A.Denot → Node g.row.K.Denot g.row.V.Denot g.row.A.Denot → Type 0 =
    λ x y. IsTrade (length (own_pairs x) + 1) x y c.put_last.new.self c.take_first-up.new.self c.replace-down.result c.take_first-up.result.0 in
    share_made_back c.args.self.now c.args.index _ c.in-Some.is _ _ _ _ c.replace-down.result _ c.requires.in_bounds c.replace-down.ensures.items
    c.replace-down.ensures.value
    (subst (λ x. P x (child_at c.args.self.now (c.args.index + 1))) l (subst (P c.get_mut-left.result.now) r
    (traded_left _ _ _ _ _ _ c.take_first-up.result.1 (rw (l, r) c.requires.alike) c.take_first-up.ensures.pairs c.take_first-up.ensures.children
    c.take_first-up.ensures.alike c.put_last.ensures.pairs c.put_last.ensures.children c.put_last.ensures.alike)))

pub returns-clause-inner : goal.returns-clause-inner
returns-clause-inner g c = shared_inner _ _ c.requires.inner c.requires.in_bounds _ _ (returns-clause-shared g c)

pub returns-clause-all_pairs : goal.returns-clause-all_pairs
returns-clause-all_pairs g c = shared_pairs _ _ c.requires.inner c.requires.in_bounds _ _ c.requires.alike (returns-clause-shared g c)
