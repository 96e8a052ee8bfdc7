use Rattle.std.proofs.Common.{length, rules, sym, ap, subst, ◌∙◌, arith, length-append}
use Rattle.std.proofs.lemmas.List.{nil_from_length}
use denote.Param.{param}
use Rattle.fc_base.specs.Ascending.{IsAscending}
use Rattle.fc_base.specs.Joined.{joined}
use Rattle.fc_tree_node.specs.Tree.{entries, IsSoundMap}
use Rattle.fc_base.proofs.JoinedLaws.{joined_after}
use Rattle.fc_tree_build.proofs.StackSizes.{builder_fits}
use Rattle.fc_tree_append.proofs.JoinFacts.{joined_none}
use Rattle.fc_tree_node.specs.Blocks.{blocks_in}
use Rattle.fc_tree_append.proofs.append.try_append.Goals as goal

pub returns-then-our_len-eq0-clause-joined : goal.returns-then-our_len-eq0-clause-joined
returns-then-our_len-eq0-clause-joined g c =
    let e = nil_from_length (entries c.args.ours.now) (omega arith) in
    let theirs = entries c.args.theirs.now in
    ap (λ r. entries r) c.swap.ensures.x_after ∙ sym (ap (λ xs. joined g.K.Ord.cmp xs theirs) e ∙ joined_none g.K.Ord.cmp theirs c.requires.order.1)

pub returns-then-is_after-clause-joined : goal.returns-then-is_after-clause-joined
returns-then-is_after-clause-joined g c =
    c.in_ok-try_join.ensures.pairs ∙ sym (joined_after g.K.Ord.cmp (entries c.args.ours.now) (entries c.args.theirs.now)
    (c.is_after.ensures.after (search rules)))

pub returns-then-is_after-clause-len : goal.returns-then-is_after-clause-len
returns-then-is_after-clause-len g c =
    let ours = c.requires.lens.0 in
    let theirs = c.requires.lens.1 in
    let e = ap length c.in_ok-try_join.ensures.pairs ∙ length-append (entries c.args.ours.now) (entries c.args.theirs.now) in
    omega arith

pub returns-then-is_after-clause-emptied : goal.returns-then-is_after-clause-emptied
returns-then-is_after-clause-emptied g c = ap (λ o. entries o) c.in_ok-try_join.ensures.emptied

pub returns-then-is_after-clause-sound : goal.returns-then-is_after-clause-sound
returns-then-is_after-clause-sound g c = (c.in_ok-try_join.ensures.sound, subst (λ o. IsSoundMap o) (sym c.in_ok-try_join.ensures.emptied) tt)

pub try_for_given_leaves-requires : goal.try_for_given_leaves-requires
try_for_given_leaves-requires g c = builder_fits (param 0 g.row.K) (param 1 g.row.V) g.row.A g.A.Allocator g.met.A.Handle.small

pub merge-root-requires : goal.merge-root-requires
merge-root-requires g c =
    let x = c.take.ensures.value in
    let y = c.take-2.ensures.value in
    let ok = c.in_ok-builder.ensures.ok in
    let ours = ap (λ o. length (entries o)) x in
    let theirs = ap (λ o. length (entries o)) y in
    let first = subst (λ o. IsAscending g.K.Ord.cmp (entries o)) (sym x) c.requires.order.0 in
    let second = subst (λ o. IsAscending g.K.Ord.cmp (entries o)) (sym y) c.requires.order.1 in (
      builder_fits (param 0 g.row.K) (param 1 g.row.V) g.row.A g.A.Allocator g.met.A.Handle.small,
      (
        (omega arith, omega arith),
        (
          (subst (λ o. IsSoundMap o) (sym x) c.requires.sound.0, subst (λ o. IsSoundMap o) (sym y) c.requires.sound.1),
          ((first, second), (ok.0, (omega (arith, ok.1), omega (arith, ok.1, ok.2)))),
        ),
      ),
    )

pub returns-clause-comparisons : goal.returns-clause-comparisons
returns-clause-comparisons g c =
    let ours = ap (λ o. length (entries o)) c.take.ensures.value in
    let theirs = ap (λ o. length (entries o)) c.take-2.ensures.value in
    omega arith

pub returns-clause-merged : goal.returns-clause-merged
returns-clause-merged g c later =
    let ours = ap (λ o. length (entries o)) c.take.ensures.value in
    let theirs = ap (λ o. length (entries o)) c.take-2.ensures.value in
    omega arith

pub returns-then-their_len-eq0-clause-blocks : goal.returns-then-their_len-eq0-clause-blocks
returns-then-their_len-eq0-clause-blocks g c = omega arith

pub returns-then-our_len-eq0-clause-blocks : goal.returns-then-our_len-eq0-clause-blocks
returns-then-our_len-eq0-clause-blocks g c =
    let ours = ap (λ o. blocks_in o) c.swap.ensures.x_after in
    let theirs = ap (λ o. blocks_in o) c.swap.ensures.y_after in
    omega (arith, ours, theirs)

pub returns-then-is_after-clause-blocks : goal.returns-then-is_after-clause-blocks
returns-then-is_after-clause-blocks g c =
    let none = ap (λ o. blocks_in o) c.in_ok-try_join.ensures.emptied in
    omega (arith, none, c.in_ok-try_join.ensures.blocks)

pub returns-clause-blocks : goal.returns-clause-blocks
returns-clause-blocks g c =
    let ours = ap (λ o. blocks_in o) c.take.ensures.value in
    let theirs = ap (λ o. blocks_in o) c.take-2.ensures.value in
    let none = ap (λ o. blocks_in o) c.take-2.ensures.after in
    omega (arith, ours, theirs, none, c.in_ok-builder.ensures.blocks, c.merge-root.ensures.blocks)
