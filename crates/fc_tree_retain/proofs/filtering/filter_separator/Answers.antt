use Rattle.std.proofs.Common.{◌≡◌, [], get_or, arith, refl, sym, ap, subst, ◌∙◌, append-nil}
use Rattle.fc_tree_node.specs.declared.node.Node.{Node}
use Rattle.fc_tree_search.specs.Written.{with_child}
use Rattle.fc_tree_node.specs.Node.{own_pairs, pairs_of, child_at}
use Rattle.fc_tree_node.proofs.Lent.{replaced, lent_is}
use Rattle.fc_tree_retain.specs.Rebalancing.{IsUnderfullOrUnbalanced}
use Rattle.fc_tree_retain.specs.Filtered.{FiltersPair}
use Rattle.fc_tree_retain.proofs.Passing.{IsWritten, is_written, IsTurned, turned, passed_kept, passed_moved, passed_gone}
use Rattle.fc_tree_search.proofs.WrittenPairs.{value_at}
use Rattle.fc_tree_retain.proofs.filtering.filter_separator.Given as given
use Rattle.fc_tree_retain.proofs.filtering.filter_separator.Goals as goal
use Rattle.fc_tree_retain.proofs.filtering.filter_separator.Goals.{Else-stays, After-child_in, After-take_last}

pub returns-then-stays-clause-passed : goal.returns-then-stays-clause-passed
returns-then-stays-clause-passed g c =
    let a = c.if-stays.ensures.asked in
    passed_kept (FiltersPair g.S.Filter.asked g.S.Filter.given) (IsUnderfullOrUnbalanced c.args.rebalances)
    c.args.filter.now c.stays.new.filter c.args.at c.args.node.now c.stays.new.node a.0
    c.requires.inner c.requires.inside a.3 a.1 (c.stays.new.filter, a.2, refl) a.4

asked : (g : given.Over) (c : Else-stays g) → IsWritten c.args.node.now c.stays.new.node c.args.at c.if-stays.ensures.asked.1
asked g c = is_written c.args.node.now c.stays.new.node c.args.at c.if-stays.ensures.asked.1 c.if-stays.ensures.asked.4

lent : (g : given.Over) (c : After-child_in g) → IsWritten c.args.node.now c.stays.new.node c.args.at c.if-stays.ensures.asked.1
    → c.child_in.result.now ≡ child_at c.args.node.now c.args.at
lent g c w =
    lent_is c.stays.new.node c.args.at _ (w.inner c.requires.inner) (omega arith) c.child_in.ensures.value
    ∙ w.child c.requires.inner (omega arith)

-- the node, whose child came back
abbrev left : (g : given.Over) → After-take_last g → Node g.row.K.Denot g.row.V.Denot g.row.A.Denot
left g c =
    with_child c.stays.new.node c.args.at c.take_last.new.node

taken : (g : given.Over) (c : After-take_last g) → IsWritten c.args.node.now c.stays.new.node c.args.at c.if-stays.ensures.asked.1
    → IsTurned c.args.node.now (left g c) c.args.at c.if-stays.ensures.asked.1 c.take_last.new.node
taken g c w =
    turned c.args.node.now c.stays.new.node _ c.args.at _ _ c.requires.inner c.requires.inside w
    (replaced c.stays.new.node c.args.at c.take_last.new.node)

pub child_in-requires : goal.child_in-requires
child_in-requires g c =
    let w = asked g (goal.at.child_in-requires g c).Else-stays in
    omega (arith, w.inner c.requires.inner, w.size, c.requires.inside)

pub take_last-requires : goal.take_last-requires
take_last-requires g c =
    let w = goal.at.take_last-requires g c in
    let is = lent g w.After-child_in (asked g w.Else-stays) in
    record { levels = (c.requires.child.0, subst (IsUnderfullOrUnbalanced c.args.rebalances c.requires.child.0) (sym is) c.requires.child.1) }

pub remove_with_separator-requires-clause-inside : goal.remove_with_separator-requires-clause-inside
remove_with_separator-requires-clause-inside g c =
    let w = goal.at.remove_with_separator-requires-clause-inside g c in
    let z = (taken g w.After-take_last (asked g w.Else-stays)).size in
    omega arith

pub remove_with_separator-requires-clause-inner : goal.remove_with_separator-requires-clause-inner
remove_with_separator-requires-clause-inner g c =
    let w = goal.at.remove_with_separator-requires-clause-inner g c in
    (taken g w.After-take_last (asked g w.Else-stays)).inner

pub replace_pair-requires : goal.replace_pair-requires
replace_pair-requires g c =
    let w = goal.at.replace_pair-requires g c in
    let z = (taken g w.After-take_last (asked g w.Else-stays)).size in
    record { in_bounds = omega arith }

pub returns-in-None-clause-passed : goal.returns-in-None-clause-passed
returns-in-None-clause-passed g c =
    let w = goal.at.returns-in-None-clause-passed g c in
    let a = c.if-stays.ensures.asked in
    let n = c.args.node.now in
    let i = c.args.at in
    let lt = c.requires.inside in
    let is = lent g w.After-child_in (asked g w.Else-stays) in
    let m = taken g w.After-take_last (asked g w.Else-stays) in
    let r = c.remove_with_separator.ensures in
    let x = c.remove_with_separator.result in
    let same : x ≡ (a.0.0, a.1) = r.value ∙ ap (λ ps. get_or ps i x) m.own ∙ value_at (own_pairs n) i a.1 a.0 x lt a.3 in
    let gone = subst (λ y. g.S.Filter.given c.stays.new.filter y c.take.new.self) same c.take.ensures.given in
    let empty : pairs_of (child_at n i) ≡ [] =
    ap pairs_of (sym is) ∙ c.in-None.ensures.pairs ∙ append-nil (pairs_of c.take_last.new.node) ∙ c.in-None.ensures.none in
    passed_gone (FiltersPair g.S.Filter.asked g.S.Filter.given) (IsUnderfullOrUnbalanced c.args.rebalances)
    c.args.filter.now c.take.new.self i n c.remove_with_separator.new.node a.0 c.requires.inner
    lt a.3
    a.1 _ c.take_last.new.node (c.stays.new.filter, a.2, gone) m r.pairs r.children empty

pub returns-in-Some-clause-passed : goal.returns-in-Some-clause-passed
returns-in-Some-clause-passed g c =
    let w = goal.at.returns-in-Some-clause-passed g c in
    let a = c.if-stays.ensures.asked in
    let n = c.args.node.now in
    let i = c.args.at in
    let lt = c.requires.inside in
    let is = lent g w.After-child_in (asked g w.Else-stays) in
    let m = taken g w.After-take_last (asked g w.Else-stays) in
    let r = c.replace_pair.ensures in
    let x = c.replace_pair.result in
    let same : x ≡ (a.0.0, a.1) = r.value ∙ ap (λ ps. get_or ps i x) m.own ∙ value_at (own_pairs n) i a.1 a.0 x lt a.3 in
    let gone = subst (λ y. g.S.Filter.given c.stays.new.filter y c.take-in-Some.new.self) same c.take-in-Some.ensures.given in
    passed_moved (FiltersPair g.S.Filter.asked g.S.Filter.given) (IsUnderfullOrUnbalanced c.args.rebalances)
    c.args.filter.now c.take-in-Some.new.self i n c.replace_pair.new.self a.0
    c.requires.inner
    lt a.3 a.1 _ c.take_last.new.node c.in-Some.pair (c.stays.new.filter, a.2, gone) m r.pairs r.children (ap pairs_of (sym is) ∙ c.in-Some.ensures.pairs)
    (λ h l. c.take_last.ensures.levels h (subst (IsUnderfullOrUnbalanced c.args.rebalances h) (sym is) l))
