use Rattle.std.proofs.Common.{[], ◌∷◌, ◌++◌, length, ap, ◌∙◌, arith, length-append}
use Rattle.std.proofs.lemmas.List.{nil_from_length}
use denote.Param.{param}
use Rattle.fc_tree_drain.proofs.Sizes.{leaf_front_fits}
use Rattle.fc_tree_build.proofs.StackSizes.{builder_fits}
use Rattle.fc_tree_append.proofs.JoinFacts.{gone_over, all_gone_over, some_left}
use Rattle.fc_tree_append.proofs.merge.push_all.Goals as goal

pub next-pair-requires : goal.next-pair-requires
next-pair-requires g c =
    let some = some_left _ c.loop-pairs.pairs.pairs c.is_empty.ensures c.loop-pairs-test.true in
    let small = g.met.A.Handle.small in (
      leaf_front_fits (param 0 g.row.K) (param 1 g.row.V) g.row.A g.A.Allocator small,
      (builder_fits (param 0 g.row.K) (param 1 g.row.V) g.row.A g.A.Allocator small, (some, c.loop-pairs.invariant.0)),
    )

pub push-requires : goal.push-requires
push-requires g c =
    let some = c.next-pair.ensures.room 0 (omega arith) (omega arith) (omega arith) in
    (builder_fits (param 0 g.row.K) (param 1 g.row.V) g.row.A g.A.Allocator g.met.A.Handle.small, omega arith)

pub loop-pairs-preserved : goal.loop-pairs-preserved
loop-pairs-preserved g c =
    let i = c.loop-pairs.invariant in
    let n = c.next-pair.ensures in
    let e = ap length n.pairs in
    let more = c.push.ensures.pairs ∙ ap (λ zs. zs ++ c.next-pair.result ∷ []) n.kept in
    let k = ap length more ∙ length-append c.loop-pairs.builder.pairs _ in
    let some = n.room 0 (omega arith) (omega arith) (omega arith) in (
      n.leaf,
      omega arith,
      omega arith,
      gone_over c.loop-pairs.builder.pairs _ _ c.loop-pairs.pairs.pairs _ _ n.pairs more i.3,
      omega arith,
      λ other few all room. (let was = i.5 other few all room in let left = n.room other few was.0 was.1 in (omega arith, omega arith)),
      omega (arith, i.6, n.blocks, c.push.ensures.blocks),
    )

pub returns-clause-pairs : goal.returns-clause-pairs
returns-clause-pairs g c =
    all_gone_over c.loop-pairs.builder.pairs _ c.loop-pairs.pairs.pairs (nil_from_length _ (c.is_empty.ensures.0 c.loop-pairs-test.false))
    c.loop-pairs.invariant.3

pub returns-clause-room : goal.returns-clause-room
returns-clause-room g c other few all room = let left = c.loop-pairs.invariant.5 other few all room in omega arith

pub returns-clause-blocks : goal.returns-clause-blocks
returns-clause-blocks g c = omega (arith, c.loop-pairs.invariant.6)
