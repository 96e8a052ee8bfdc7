use Rattle.std.proofs.Common.{◌≡◌, length, get_or, arith, refl, ap, subst, ◌∙◌}
use Rattle.std.specs.Prelude.{true, false}
use Rattle.std.specs.List.{remove}
use Rattle.std.proofs.lemmas.List.Edits.{length-remove}
use Rattle.fc_tree_node.specs.Node.{own_pairs}
use Rattle.fc_tree_retain.proofs.Passing.{is_written, written_leaf}
use Rattle.fc_tree_search.proofs.WrittenPairs.{value_at}
use Rattle.fc_tree_retain.proofs.filtering.filter_pair.Goals as goal

pub returns-then-stays-clause-unbalanced : goal.returns-then-stays-clause-unbalanced
returns-then-stays-clause-unbalanced g c =
    let a = c.if-stays.ensures.asked in
    written_leaf c.args.node.now c.stays.new.node c.args.at a.1 c.requires.leaf a.4

pub returns-then-stays-clause-passed : goal.returns-then-stays-clause-passed
returns-then-stays-clause-passed g c =
    let a = c.if-stays.ensures.asked in
    (a.0, a.1, true, (c.stays.new.filter, a.2, refl), a.3, (refl, (is_written c.args.node.now c.stays.new.node c.args.at a.1 a.4).own))

pub remove_leaf-requires-clause-in_bounds : goal.remove_leaf-requires-clause-in_bounds
remove_leaf-requires-clause-in_bounds g c =
    let a = c.if-stays.ensures.asked in
    let z = (is_written c.args.node.now c.stays.new.node c.args.at a.1 a.4).size in
    omega arith

pub remove_leaf-requires-clause-leaf : goal.remove_leaf-requires-clause-leaf
remove_leaf-requires-clause-leaf g c =
    let a = c.if-stays.ensures.asked in
    (written_leaf c.args.node.now c.stays.new.node c.args.at a.1 c.requires.leaf a.4).1

pub returns-clause-unbalanced : goal.returns-clause-unbalanced
returns-clause-unbalanced g c =
    let a = c.if-stays.ensures.asked in
    let z = (is_written c.args.node.now c.stays.new.node c.args.at a.1 a.4).size in
    let s : length (own_pairs c.remove_leaf.new.self) ≡ length (remove (own_pairs c.stays.new.node) c.args.at) = ap length c.remove_leaf.ensures.pairs in
    let r = length-remove (own_pairs c.stays.new.node) c.args.at (omega arith) in
    (omega arith, c.remove_leaf.ensures.leaf)

pub returns-clause-passed : goal.returns-clause-passed
returns-clause-passed g c =
    let a = c.if-stays.ensures.asked in
    let n = c.args.node.now in
    let i = c.args.at in
    let o = (is_written n c.stays.new.node i a.1 a.4).own in
    let r = c.remove_leaf.ensures in
    let x = c.remove_leaf.result in
    let same : x ≡ (a.0.0, a.1) = r.value ∙ ap (λ ps. get_or ps i x) o ∙ value_at (own_pairs n) i a.1 a.0 x c.requires.inside a.3 in
    let gone = subst (λ y. g.S.Filter.given c.stays.new.filter y c.take.new.self) same c.take.ensures.given in
    (a.0, a.1, false, (c.stays.new.filter, a.2, gone), a.3, (refl, r.pairs ∙ ap (λ ps. remove ps i) o))
