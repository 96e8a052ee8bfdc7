use Rattle.std.proofs.Common.{◌+◌, rules, arith, ap, take_all}
use Rattle.fc_tree_node.specs.Node.{children_of}
use Rattle.fc_tree_node.proofs.MeasureFacts.{fewer_nodes}
use Rattle.std.proofs.lemmas.Result.{err_from_is_err_and}
use Rattle.fc_base.specs.Copies.{MayRefusePair}
use Rattle.fc_tree_copy.specs.Copy.{AreSame}
use Rattle.fc_tree_node.proofs.BlockFacts.{all_blocks, blocks_are}
use Rattle.fc_tree_copy.proofs.BlockFacts.{one_more, few_blocks}
use Rattle.fc_tree_copy.proofs.CopyFacts.{inner_copy, children_copied, child_copied, tree_copied, refused_own, refused_below}
use Rattle.fc_tree_copy.proofs.copy.+try_copy.Goals as goal

pub try_copy-requires : goal.try_copy-requires
try_copy-requires g t c κs within =
    let fewer = fewer_nodes c.args.node.now c.child.result.now c.loop-i.i (omega (arith, c.loop-i.invariant.0)) c.child.ensures in
    (omega (arith, fewer, c.decreases), (search rules, (search rules, (search rules, (search rules, search rules)))))

pub push_child-requires-clause-room : goal.push_child-requires-clause-room
push_child-requires-clause-room g t c =
    let i = c.loop-i.invariant in
    let many = children_copied (AreSame g.K.TryClone.same g.V.TryClone.same) c.loop-i.i c.args.node.now c.loop-i.copy i.1 (omega (arith, i.0)) in
    omega (arith, many, i.0, c.child_count-i-end.ensures.fits)

pub push_child-requires-clause-inner : goal.push_child-requires-clause-inner
push_child-requires-clause-inner g t c =
    let i = c.loop-i.invariant in
    inner_copy (AreSame g.K.TryClone.same g.V.TryClone.same) c.loop-i.i c.args.node.now c.loop-i.copy i.1 (omega (arith, i.0))

pub loop-i-preserved : goal.loop-i-preserved
loop-i-preserved g t c =
    let i = c.loop-i.invariant in
    let put = c.push_child.ensures in
    let more = child_copied (AreSame g.K.TryClone.same g.V.TryClone.same) c.loop-i.i c.args.node.now c.loop-i.copy i.1 c.push_child.new.node
    c.child.result.now c.in_ok-child.child (omega (arith, i.0)) c.child.ensures c.in_ok-child.ensures.copied put.own put.children put.inner in
    let one = one_more (children_of c.args.node.now) c.loop-i.i c.child.result.now c.args.node.now (omega (arith, i.0)) c.child.ensures in
    (i.0, more, omega (arith, i.2, one, c.in_ok-child.ensures.requests))

pub returns-clause-copied : goal.returns-clause-copied
returns-clause-copied g t c =
    let i = c.loop-i.invariant in
    tree_copied (AreSame g.K.TryClone.same g.V.TryClone.same) c.loop-i.i c.args.node.now c.loop-i.copy i.1 (omega (arith, i.0))

pub returns-in_err-copy-clause-error : goal.returns-in_err-copy-clause-error
returns-in_err-copy-clause-error g t c h l =
    let may = MayRefusePair g.K.TryClone.may_refuse g.V.TryClone.may_refuse in
    let p = err_from_is_err_and c.from_residual.result c.from_residual.ensures.1 in
    rw (p.1, p.2) (refused_own may c.in_err-copy.field-0.0 c.args.node.now c.in_err-copy.ensures.error)

pub returns-in_err-child-clause-error : goal.returns-in_err-child-clause-error
returns-in_err-child-clause-error g t c h l =
    let may = MayRefusePair g.K.TryClone.may_refuse g.V.TryClone.may_refuse in
    let p = err_from_is_err_and c.from_residual-in_err-child.result c.from_residual-in_err-child.ensures.1 in
    let i = c.loop-i.invariant in
    rw (p.1, p.2) (refused_below may c.in_err-child.field-0.0 h c.args.node.now c.child.result.now c.loop-i.i l (omega (arith, i.0)) c.child.ensures
    c.in_err-child.ensures.error)

pub returns-clause-requests : goal.returns-clause-requests
returns-clause-requests g t c =
    let i = c.loop-i.invariant in
    let all = ap all_blocks (take_all c.loop-i.i (children_of c.args.node.now) (omega (arith, i.0))) in
    omega (arith, i.2, all, blocks_are c.args.node.now)

pub returns-clause-at_most : goal.returns-clause-at_most
returns-clause-at_most g t c = let is = returns-clause-requests g t c in omega (arith, is)

pub returns-in_err-child-clause-at_most : goal.returns-in_err-child-clause-at_most
returns-in_err-child-clause-at_most g t c =
    let i = c.loop-i.invariant in
    let one = one_more (children_of c.args.node.now) c.loop-i.i c.child.result.now c.args.node.now (omega (arith, i.0)) c.child.ensures in
    omega (arith, i.2, one, few_blocks (children_of c.args.node.now) (c.loop-i.i + 1), blocks_are c.args.node.now, c.in_err-child.ensures.at_most)
