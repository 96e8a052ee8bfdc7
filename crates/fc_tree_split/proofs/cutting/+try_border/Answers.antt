use Rattle.std.proofs.Common.{◌<◌, length, rules, ap, sym, subst, arith}
use Rattle.std.proofs.lemmas.Bool.{false≢true}
use Rattle.fc_tree_node.specs.Node.{IsLevelled}
use Rattle.fc_tree_node.specs.Measures.{height_of}
use Rattle.fc_tree_split.proofs.Cuts.{empty_made, empty_above, first_child, child_lower, anyway, leaf_low}
use Rattle.fc_tree_node.proofs.BlockFacts.{all_blocks, blocks_inner}
use Rattle.fc_tree_split.proofs.SplitBlocks.{leaf_border}
use Rattle.fc_tree_split.proofs.cutting.+try_border.Goals as goal

pub returns-then-is_leaf-clause-ok : goal.returns-then-is_leaf-clause-ok
returns-then-is_leaf-clause-ok g t c = empty_made c.args.node.now c.try_leaf.result (c.if-is_leaf.ensures.0 (search rules)) c.try_leaf.ensures.ok

pub try_border-requires : goal.try_border-requires
try_border-requires g t c κs within =
    let r = first_child c.requires.0 c.args.node.now (λ l. false≢true (c.if-is_leaf.ensures.1 l)) c.requires.1 in
    let q = ap height_of c.child.ensures in
    let falls : height_of c.child.result.now < height_of c.args.node.now = omega arith in
    (search rules, (search rules, (search rules, (search rules, (r.below, subst (IsLevelled r.below) (sym c.child.ensures) r.levels)))))

pub returns-clause-ok : goal.returns-clause-ok
returns-clause-ok g t c h l =
    empty_above h c.args.node.now c.adopt.new.self c.in_ok-below.below c.child.result.now (λ l. false≢true (c.if-is_leaf.ensures.1 l))
    c.adopt.ensures.pairs c.adopt.ensures.children c.child.ensures c.in_ok-below.ensures.ok l

pub returns-then-is_leaf-clause-requests : goal.returns-then-is_leaf-clause-requests
returns-then-is_leaf-clause-requests g t c =
    anyway c.try_leaf.result (rw (leaf_low c.args.node.now (c.if-is_leaf.ensures.0 (search rules))) c.try_leaf.ensures.requests)

pub returns-in_err-top-clause-at_most : goal.returns-in_err-top-clause-at_most
returns-in_err-top-clause-at_most g t c =
    let higher = child_lower c.requires.0 c.args.node.now c.child.result.now (λ l. false≢true (c.if-is_leaf.ensures.1 l)) c.requires.1 c.child.ensures in
    omega (arith, higher, c.in_ok-below.ensures.requests, c.try_inner.ensures.at_most)

pub returns-clause-requests : goal.returns-clause-requests
returns-clause-requests g t c =
    let higher = child_lower c.requires.0 c.args.node.now c.child.result.now (λ l. false≢true (c.if-is_leaf.ensures.1 l)) c.requires.1 c.child.ensures in
    omega (arith, higher, c.in_ok-below.ensures.requests, c.in_ok-top.ensures.requests)

pub returns-clause-at_most : goal.returns-clause-at_most
returns-clause-at_most g t c = let e = returns-clause-requests g t c in omega (arith, e)

pub returns-then-is_leaf-clause-blocks : goal.returns-then-is_leaf-clause-blocks
returns-then-is_leaf-clause-blocks g t c = leaf_border c.args.node.now c.try_leaf.result (c.if-is_leaf.ensures.0 (search rules)) c.try_leaf.ensures.ok

pub returns-clause-blocks : goal.returns-clause-blocks
returns-clause-blocks g t c =
    let one = ap length c.adopt.ensures.children in
    let all = ap all_blocks c.adopt.ensures.children in
    omega (
      arith,
      child_lower c.requires.0 c.args.node.now c.child.result.now (λ l. false≢true (c.if-is_leaf.ensures.1 l)) c.requires.1 c.child.ensures,
      blocks_inner c.adopt.new.self (omega (arith, one)),
      all,
      c.in_ok-below.ensures.blocks,
    )
