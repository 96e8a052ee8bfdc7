use Rattle.std.proofs.Common.{◌≡◌, ℕ, ◌+◌, ◌≤◌, ◌⊎◌, inl, inr, [], ◌++◌, length, refl, sym, ap, subst, ◌∙◌, arith, length-append}
use Rattle.std.proofs.lemmas.List.{nil_from_length}
use denote.Param.{param}
use Rattle.fc_base.specs.Ascending.{IsAscending}
use Rattle.fc_base.specs.Joined.{joined}
use Rattle.fc_tree_node.specs.Tree.{entries}
use Rattle.fc_tree_drain.proofs.Sizes.{leaf_front_fits}
use Rattle.fc_tree_build.proofs.StackSizes.{items_fit, builder_fits}
use Rattle.fc_tree_append.proofs.JoinFacts.{drained, some_left}
use Rattle.fc_tree_append.proofs.merge.merge.Goals as goal
use Rattle.fc_tree_append.proofs.merge.merge.Goals.{then-loop-their_pairs-test+else-not-is_empty, else-loop-their_pairs-test}

-- once the first list is put in, there is room for the other
rest_fits : (new limit old before ours theirs : ℕ) → new + limit ≡ old + before → new ≡ old + ours → ours + theirs ≤ before → theirs ≤ limit
rest_fits new limit old before ours theirs e f few = omega arith

both_fit : (ours theirs leaf limit : ℕ) → ours + theirs ≤ limit → leaf ≤ theirs → ours + leaf ≤ limit
both_fit ours theirs leaf limit all few = omega arith

pub returns-clause-pairs : goal.returns-clause-pairs
returns-clause-pairs g c =
    let l = c.loop-their_pairs in
    let i = l.invariant in
    let done : (l.our_pairs.pairs ≡ []) ⊎ (l.their_pairs.pairs ≡ []) = elim c.loop-their_pairs-test.branch [
      | then-loop-their_pairs-test+else-not-is_empty w ↦
          inr (nil_from_length l.their_pairs.pairs (w.is_empty-in-loop-their_pairs.ensures.0 w.if-not-is_empty.false))
      | else-loop-their_pairs-test w ↦ inl (nil_from_length l.our_pairs.pairs (c.is_empty.ensures.0 w.loop-their_pairs-test.false))
    ] in
    c.finish.ensures.pairs ∙ c.push_all-2.ensures.pairs ∙ ap (λ zs. zs ++ l.their_pairs.pairs) c.push_all.ensures.pairs
    ∙ drained g.K.Ord.cmp l.builder.pairs l.our_pairs.pairs l.their_pairs.pairs done i.0.1
    ∙ i.2 ∙ ap (λ zs. zs ++ joined g.K.Ord.cmp c.over-our_pairs.result.pairs c.over-their_pairs.result.pairs) c.requires.empty
    ∙ ap (λ zs. joined g.K.Ord.cmp zs c.over-their_pairs.result.pairs) c.over-our_pairs.ensures.pairs
    ∙ ap (λ zs. joined g.K.Ord.cmp (entries c.args.ours) zs) c.over-their_pairs.ensures.pairs

pub returns-clause-least : goal.returns-clause-least
returns-clause-least g c =
    let ours = ap length c.over-our_pairs.ensures.pairs in
    let theirs = ap length c.over-their_pairs.ensures.pairs in
    elim c.loop-their_pairs-test.branch [
      | then-loop-their_pairs-test+else-not-is_empty w ↦ (let none = w.is_empty-in-loop-their_pairs.ensures.0 w.if-not-is_empty.false in omega arith)
      | else-loop-their_pairs-test w ↦ (let none = c.is_empty.ensures.0 w.loop-their_pairs-test.false in omega arith)
    ]

pub over-our_pairs-requires : goal.over-our_pairs-requires
over-our_pairs-requires g c = (leaf_front_fits (param 0 g.row.K) (param 1 g.row.V) g.row.A g.A.Allocator g.met.A.Handle.small, c.requires.sound.0)

pub over-their_pairs-requires : goal.over-their_pairs-requires
over-their_pairs-requires g c = (leaf_front_fits (param 0 g.row.K) (param 1 g.row.V) g.row.A g.A.Allocator g.met.A.Handle.small, c.requires.sound.1)

pub loop-their_pairs-init : goal.loop-their_pairs-init
loop-their_pairs-init g c =
    let first = subst (λ xs. IsAscending g.K.Ord.cmp xs) (sym c.over-our_pairs.ensures.pairs) c.requires.order.0 in
    let second = subst (λ xs. IsAscending g.K.Ord.cmp xs) (sym c.over-their_pairs.ensures.pairs) c.requires.order.1 in
    let ours = ap length c.over-our_pairs.ensures.pairs in
    let theirs = ap length c.over-their_pairs.ensures.pairs in
    ((first, second), omega arith, refl, refl, omega arith, omega arith, omega arith, omega arith, refl, omega arith)

pub is_empty-requires : goal.is_empty-requires
is_empty-requires g c = leaf_front_fits (param 0 g.row.K) (param 1 g.row.V) g.row.A g.A.Allocator g.met.A.Handle.small

pub is_empty-requires-in-loop-their_pairs : goal.is_empty-requires-in-loop-their_pairs
is_empty-requires-in-loop-their_pairs g c = leaf_front_fits (param 0 g.row.K) (param 1 g.row.V) g.row.A g.A.Allocator g.met.A.Handle.small

pub step-requires : goal.step-requires
step-requires g c =
    let l = c.loop-their_pairs in
    let ours = some_left _ l.our_pairs.pairs c.is_empty.ensures c.loop-their_pairs-test.true in
    let theirs = some_left _ l.their_pairs.pairs c.is_empty-in-loop-their_pairs.ensures c.if-not-is_empty.true in (
      leaf_front_fits (param 0 g.row.K) (param 1 g.row.V) g.row.A g.A.Allocator g.met.A.Handle.small,
      (builder_fits (param 0 g.row.K) (param 1 g.row.V) g.row.A g.A.Allocator g.met.A.Handle.small, ((ours, theirs), (l.invariant.0, l.invariant.1))),
    )

pub loop-their_pairs-preserved : goal.loop-their_pairs-preserved
loop-their_pairs-preserved g c =
    let l = c.loop-their_pairs in
    let i = l.invariant in
    let ours = some_left _ l.our_pairs.pairs c.is_empty.ensures c.loop-their_pairs-test.true in
    let theirs = some_left _ l.their_pairs.pairs c.is_empty-in-loop-their_pairs.ensures c.if-not-is_empty.true in
    let s = c.step.ensures in
    (s.order, s.room, s.pairs ∙ i.2, s.filled ∙ i.3, omega arith, omega arith, omega arith, omega arith, s.moves ∙ i.8, omega (arith, i.9, s.blocks))

pub push_all-requires : goal.push_all-requires
push_all-requires g c = (
  leaf_front_fits (param 0 g.row.K) (param 1 g.row.V) g.row.A g.A.Allocator g.met.A.Handle.small,
  (builder_fits (param 0 g.row.K) (param 1 g.row.V) g.row.A g.A.Allocator g.met.A.Handle.small, omega arith),
)

pub push_all-requires-2 : goal.push_all-requires-2
push_all-requires-2 g c =
    let l = c.loop-their_pairs in
    let r = l.invariant.1 in
    let small = g.met.A.Handle.small in
    let e = ap length c.push_all.ensures.pairs ∙ length-append l.builder.pairs l.our_pairs.pairs in
    let after = c.push_all.new.builder in
    let limit = rest_fits (length after.pairs) after.limit _ l.builder.limit (length l.our_pairs.pairs) _ c.push_all.ensures.filled e r.0 in
    let room = c.push_all.ensures.room l.their_pairs.in_leaf r.3.0 (both_fit (length l.our_pairs.pairs) _ _ l.builder.limit r.0 r.3.1) r.1 in (
      leaf_front_fits (param 0 g.row.K) (param 1 g.row.V) g.row.A g.A.Allocator small,
      (builder_fits (param 0 g.row.K) (param 1 g.row.V) g.row.A g.A.Allocator small, (r.3, (limit, room))),
    )

pub array_drop-their_pairs-inside-requires : goal.array_drop-their_pairs-inside-requires
array_drop-their_pairs-inside-requires g c = items_fit (param 0 g.row.K) (param 1 g.row.V) g.row.A g.A.Allocator g.met.A.Handle.small

pub array_drop-our_pairs-inside-requires : goal.array_drop-our_pairs-inside-requires
array_drop-our_pairs-inside-requires g c = items_fit (param 0 g.row.K) (param 1 g.row.V) g.row.A g.A.Allocator g.met.A.Handle.small

pub returns-clause-len : goal.returns-clause-len
returns-clause-len g c =
    let all = ap length c.finish.ensures.pairs in
    let empty = ap length c.requires.empty in
    omega arith

pub returns-clause-comparisons : goal.returns-clause-comparisons
returns-clause-comparisons g c =
    let ours = ap length c.over-our_pairs.ensures.pairs in
    let theirs = ap length c.over-their_pairs.ensures.pairs in
    omega arith

pub returns-clause-blocks : goal.returns-clause-blocks
returns-clause-blocks g c =
    omega (
      arith,
      c.loop-their_pairs.invariant.9,
      c.over-our_pairs.ensures.blocks,
      c.over-their_pairs.ensures.blocks,
      c.push_all.ensures.blocks,
      c.push_all-2.ensures.blocks,
      c.finish.ensures.blocks,
    )
