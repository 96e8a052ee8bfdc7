use Rattle.std.proofs.Common.{◌≡◌, ◌++◌, suc, take, drop, length-set, length-append, length-take, length-drop, ◌≤◌, sym, ap, ◌+◌, ◌-◌, length, get_or, subst}
use Rattle.std.proofs.Common.{arith}
use Rattle.fc_base.specs.Sizes.{capacity}
use Rattle.fc_tree_node.specs.declared.node.Node.{Node}
use Rattle.fc_tree_node.specs.Node.{own_pairs, child_at}
use Rattle.fc_tree_node.proofs.Made.{inner_length}
use Rattle.fc_tree_node.proofs.Shared.{listed_child, kept_child, bulk_made, IsBulkTrade}
use Rattle.fc_tree_node.proofs.Siblings.{shared_inner, shared_pairs}
use Rattle.fc_tree_node.proofs.node.Node.bulk_steal_right.Given as given
use Rattle.fc_tree_node.proofs.node.Node.bulk_steal_right.Goals as goal
use Rattle.fc_tree_node.proofs.node.Node.bulk_steal_right.Goals.{After-get_mut-left}

siblings : (g : given.Over) (c : After-get_mut-left g) → (c.get_mut-left.result.now ≡ child_at c.args.self.now c.args.index)
    × (c.remove-right.result ≡ child_at c.args.self.now (c.args.index + 1))
siblings g c =
    let n = inner_length c.args.self.now _ c.in-Some.is c.requires.inner in (
      kept_child c.args.self.now c.args.index _ c.in-Some.is _ _ (omega arith) c.remove-right.ensures.items c.get_mut-left.ensures.value,
      listed_child c.args.self.now c.args.index _ c.in-Some.is (c.args.index + 1) _ (omega arith) c.remove-right.ensures.value,
    )

pub returns-clause-shared : goal.returns-clause-shared
returns-clause-shared g c =
    let n = inner_length c.args.self.now _ c.in-Some.is c.requires.inner in
    let e = siblings g (goal.at.returns-clause-shared g c).After-get_mut-left in
    let P : Node g.row.K.Denot g.row.V.Denot g.row.A.Denot → Node g.row.K.Denot g.row.V.Denot g.row.A.Denot → Type 0 =
    λ x y. IsBulkTrade (length (own_pairs x) + c.args.n) x y c.send_left.new.left c.send_left.new.self (get_or (own_pairs c.args.self.now) c.args.index)
    (get_or (own_pairs c.remove-right.result) (c.args.n - 1)) in
    bulk_made c.args.self.now c.args.index _ c.in-Some.is _ _ _ (get_or (own_pairs c.remove-right.result) (c.args.n - 1)) _ _ _ c.requires.in_bounds
    (omega arith) c.send_left.ensures.parent c.remove-right.ensures.items c.insert.ensures
    (subst (λ x. P x (child_at c.args.self.now (c.args.index + 1))) e.0 (subst (P c.get_mut-left.result.now) e.1
    (record { own = c.send_left.ensures.pairs; below = c.send_left.ensures.children; size = omega arith; alike = c.send_left.ensures.alike })))

pub returns-clause-inner : goal.returns-clause-inner
returns-clause-inner g c = shared_inner _ _ c.requires.inner c.requires.in_bounds _ _ (returns-clause-shared g c)

pub returns-clause-all_pairs : goal.returns-clause-all_pairs
returns-clause-all_pairs g c = shared_pairs _ _ c.requires.inner c.requires.in_bounds _ _ c.requires.alike (returns-clause-shared g c)

pub send_left-requires-clause-room : goal.send_left-requires-clause-room
send_left-requires-clause-room g c =
    let e = siblings g (goal.at.send_left-requires-clause-room g c).After-get_mut-left in
    subst (λ x. length (own_pairs x) + c.args.n ≤ capacity) (sym e.0) c.requires.room

pub insert-requires-clause-room : goal.insert-requires-clause-room
insert-requires-clause-room g c =
    let n = inner_length c.args.self.now _ c.in-Some.is c.requires.inner in let cs = c.in-Some.children in let i = c.args.index in
    let gone : length c.remove-right.new.self ≡ length (take (i + 1) cs ++ drop (suc (i + 1)) cs) = ap length c.remove-right.ensures.items in
    omega (
      arith,
      length-set c.remove-right.new.self i c.send_left.new.left,
      length-append (take (i + 1) cs) (drop (suc (i + 1)) cs),
      length-take (i + 1) cs,
      length-drop (suc (i + 1)) cs,
      c.len.ensures.fits,
      c.len.ensures.value,
      c.requires.in_bounds,
    )

pub returns-clause-moves : goal.returns-clause-moves
returns-clause-moves g c =
    let e = siblings g (goal.at.returns-clause-moves g c).After-get_mut-left in
    omega (arith, c.send_left.ensures.moves, ap (λ x. length (own_pairs x)) e.1)
