use Rattle.std.proofs.Common.{◌∙◌, sym, ap, subst, drop, arith, ◌+◌, ◌-◌}
use Rattle.fc_tree_node.specs.Place.{IsPlace, place_pair}
use Rattle.fc_tree_search.proofs.WrittenFacts.{place_some, place_step, place_end, own_there}
use Rattle.fc_tree_search.proofs.lend.pair_at.Goals as goal

pub child-node-requires : goal.child-node-requires
child-node-requires g c =
    let s = place_step c.args.path.now c.loop-i.node.now c.loop-i.i c.step.result (omega arith) c.step.ensures c.loop-i.invariant.0 in
    s.there

pub loop-i-preserved : goal.loop-i-preserved
loop-i-preserved g c =
    let s = place_step c.args.path.now c.loop-i.node.now c.loop-i.i c.step.result (omega arith) c.step.ensures c.loop-i.invariant.0 in
    let rest = drop (c.loop-i.i + 1) c.args.path.now in
    (subst (IsPlace rest) (sym c.child-node.ensures) s.place, ap (place_pair rest) c.child-node.ensures ∙ s.pair ∙ c.loop-i.invariant.1)

pub returns : goal.returns
returns g c =
    let some = place_some c.args.path.now c.args.root.now c.requires in
    let e = place_end c.args.path.now c.loop-i.node.now c.loop-i.i (c.len-last.result - 1) c.step-2.result (omega arith) (omega arith) c.step-2.ensures
    c.loop-i.invariant.0 in
    sym c.loop-i.invariant.1 ∙ e.1 ∙ own_there c.loop-i.node.now c.step-2.result c.pair.result.now e.0 c.pair.ensures
