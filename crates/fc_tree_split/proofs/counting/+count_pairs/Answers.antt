use Rattle.std.proofs.Common.{ℕ, ◌<◌, length, rules, ap, sym, subst, arith}
use Rattle.fc_tree_node.specs.Node.{pairs_of, children_of, IsLevelled}
use Rattle.fc_tree_node.specs.Measures.{height_of}
use Rattle.fc_tree_split.proofs.Counts.{IsNext, counted, counted_all, next_child}
use Rattle.fc_tree_split.proofs.counting.+count_pairs.Given as given
use Rattle.fc_tree_split.proofs.counting.+count_pairs.Goals as goal
use Rattle.fc_tree_split.proofs.counting.+count_pairs.Goals.{After-child}

next : (g : given.Over) (t : ℕ) (c : After-child g t) → IsNext c.args.node.now c.loop-i.i
next g t c =
    next_child c.requires.levels.0 c.args.node.now c.loop-i.i c.requires.levels.1 (omega arith)

pub count_pairs-total-requires : goal.count_pairs-total-requires
count_pairs-total-requires g t c κs within =
    let n = c.args.node.now in
    let r = next g t (goal.at.count_pairs-total-requires g t c).After-child in
    let p = ap (λ m. length (pairs_of m)) c.child.ensures in
    let q = ap height_of c.child.ensures in
    let falls : height_of c.child.result.now < height_of n = omega arith in
    (search rules, (search rules, (search rules, (search rules, ((r.below, subst (IsLevelled r.below) (sym c.child.ensures) r.levels), omega arith)))))

pub overflow_add-total : goal.overflow_add-total
overflow_add-total g t c =
    let r = next g t (goal.at.overflow_add-total g t c).After-child in
    let p = ap (λ m. length (pairs_of m)) c.child.ensures in
    omega arith

pub loop-i-preserved : goal.loop-i-preserved
loop-i-preserved g t c =
    let more = (next g t (goal.at.loop-i-preserved g t c).After-child).more in
    let p = ap (λ m. length (pairs_of m)) c.child.ensures in
    omega arith

pub returns : goal.returns
returns g t c =
    let n = c.args.node.now in
    let k = counted_all (children_of n) c.loop-i.i (omega arith) in
    let e = counted c.requires.levels.0 n c.requires.levels.1 in
    omega arith
