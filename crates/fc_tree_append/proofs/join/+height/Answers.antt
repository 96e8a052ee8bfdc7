use Rattle.std.proofs.Common.{◌<◌, rules, ap, sym, subst, arith}
use Rattle.std.proofs.lemmas.Bool.{false≢true}
use Rattle.fc_tree_node.specs.Node.{IsLevelled}
use Rattle.fc_tree_node.specs.Measures.{height_of}
use Rattle.fc_tree_node.proofs.MeasureFacts.{no_children, levelled_height}
use Rattle.fc_tree_node.proofs.Pairs.{leaf_children}
use Rattle.fc_tree_append.proofs.Levels.{first_below, first_lower}
use Rattle.fc_tree_append.proofs.join.+height.Goals as goal

pub returns-then-is_leaf : goal.returns-then-is_leaf
returns-then-is_leaf g t c = sym (no_children c.args.node.now (leaf_children c.args.node.now (c.if-is_leaf.ensures.0 (search rules))))

pub height-requires : goal.height-requires
height-requires g t c κs within =
    let r = first_below c.requires.0 c.args.node.now (λ l. false≢true (c.if-is_leaf.ensures.1 l)) c.requires.2 in
    let q = ap height_of c.child.ensures in
    let falls : height_of c.child.result.now < height_of c.args.node.now = omega arith in
    (search rules, (search rules, (search rules, (search rules, (r.below, omega arith, subst (IsLevelled r.below) (sym c.child.ensures) r.levels)))))

pub overflow_add-result : goal.overflow_add-result
overflow_add-result g t c =
    let r = first_lower c.requires.0 c.args.node.now (λ l. false≢true (c.if-is_leaf.ensures.1 l)) c.requires.2 in
    let q = ap height_of c.child.ensures in
    let h = levelled_height c.requires.0 c.args.node.now c.requires.2 in
    omega arith

pub returns : goal.returns
returns g t c =
    let r = first_lower c.requires.0 c.args.node.now (λ l. false≢true (c.if-is_leaf.ensures.1 l)) c.requires.2 in
    let q = ap height_of c.child.ensures in
    omega arith
