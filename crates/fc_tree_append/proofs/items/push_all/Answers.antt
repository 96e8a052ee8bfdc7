use Rattle.std.proofs.Common.{length, ap, ◌∙◌, arith, length-append}
use denote.Param.{param}
use Rattle.std.proofs.lemmas.List.{nil_from_length}
use Rattle.fc_tree_drain.proofs.Sizes.{front_fits}
use Rattle.fc_tree_build.proofs.StackSizes.{builder_fits}
use Rattle.fc_tree_append.proofs.JoinFacts.{gone_over, all_gone_over, some_left}
use Rattle.fc_tree_append.proofs.items.push_all.Goals as goal

pub next-requires : goal.next-requires
next-requires g c =
    let some = some_left _ c.loop-builder.pairs c.is_empty.ensures c.loop-builder-test.true in
    (front_fits (param 0 g.row.K) (param 1 g.row.V) g.row.A g.A.Allocator g.met.A.Handle.small, some)

pub push-requires : goal.push-requires
push-requires g c =
    let some = some_left _ c.loop-builder.pairs c.is_empty.ensures c.loop-builder-test.true in
    (builder_fits (param 0 g.row.K) (param 1 g.row.V) g.row.A g.A.Allocator g.met.A.Handle.small, omega arith)

pub loop-builder-preserved : goal.loop-builder-preserved
loop-builder-preserved g c =
    let i = c.loop-builder.invariant in
    let e = ap length c.next.ensures in
    let n = ap length c.push.ensures.pairs ∙ length-append c.loop-builder.builder.pairs _ in
    (omega arith, gone_over c.loop-builder.builder.pairs _ _ c.loop-builder.pairs _ _ c.next.ensures c.push.ensures.pairs i.1, omega arith)

pub returns-clause-pairs : goal.returns-clause-pairs
returns-clause-pairs g c =
    all_gone_over c.loop-builder.builder.pairs _ c.loop-builder.pairs (nil_from_length _ (c.is_empty.ensures.0 c.loop-builder-test.false))
    c.loop-builder.invariant.1
