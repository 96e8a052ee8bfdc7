use Rattle.std.proofs.Common.{◌≡◌, [], ◌∷◌, length, sym, ap, subst, ◌∙◌, arith}
use denote.Param.{param}
use Rattle.std.specs.List.{AllByRecursion}
use Rattle.fc_base.specs.Ascending.{IsAscending}
use Rattle.std.specs.declared.cmp.Ordering.TheVariants.{Less, Greater}
use Rattle.std.proofs.Common.{length-append}
use Rattle.fc_tree_node.proofs.Lists.{all_both}
use Rattle.std.proofs.lemmas.List.{nil_from_length}
use Rattle.fc_tree_drain.proofs.Sizes.{front_fits}
use Rattle.fc_tree_build.proofs.StackSizes.{builder_fits}
use Rattle.fc_tree_append.proofs.JoinFacts.{gone_over, some_left}
use Rattle.fc_tree_append.proofs.MergedFacts.{all_greater, head_of}
use Rattle.fc_tree_append.proofs.items.pass.Goals as goal

pub first-requires : goal.first-requires
first-requires g c = (
  front_fits (param 0 g.row.K) (param 1 g.row.V) g.row.A g.A.Allocator g.met.A.Handle.small,
  some_left _ c.loop-pairs.pairs c.is_empty.ensures c.loop-pairs-test.true,
)

pub next-requires : goal.next-requires
next-requires g c = (
  front_fits (param 0 g.row.K) (param 1 g.row.V) g.row.A g.A.Allocator g.met.A.Handle.small,
  some_left _ c.loop-pairs.pairs c.is_empty.ensures c.loop-pairs-test.true,
)

pub push-requires : goal.push-requires
push-requires g c =
    let some = some_left _ c.loop-pairs.pairs c.is_empty.ensures c.loop-pairs-test.true in
    (builder_fits (param 0 g.row.K) (param 1 g.row.V) g.row.A g.A.Allocator g.met.A.Handle.small, omega arith)

pub loop-pairs-preserved : goal.loop-pairs-preserved
loop-pairs-preserved g c =
    let i = c.loop-pairs.invariant in
    let e = ap length c.next.ensures in
    let n = ap length c.push.ensures.pairs ∙ length-append c.loop-pairs.builder.pairs _ in
    let head = head_of _ _ _ _ (sym c.first.ensures.1 ∙ c.next.ensures) in
    let less = ap (λ z. g.K.Ord.cmp z.0 c.args.key.now) (sym head) ∙ sym c.cmp.ensures ∙ c.in-Less.is in
    let order = subst (IsAscending g.K.Ord.cmp) c.next.ensures i.0 in
    let after = subst (AllByRecursion (λ e. g.K.Ord.cmp e.0 c.args.key.now ≡ Less)) (sym c.push.ensures.pairs)
    (all_both _ c.loop-pairs.builder.pairs (c.next.result ∷ []) i.1 (less, tt)) in
    (order.1, after, omega arith, gone_over c.loop-pairs.builder.pairs _ _ c.loop-pairs.pairs _ _ c.next.ensures c.push.ensures.pairs i.3, omega arith)

pub returns-in-Equal-clause-stopped : goal.returns-in-Equal-clause-stopped
returns-in-Equal-clause-stopped g c = (c.first.result.now, c.first.ensures.0, c.first.ensures.1, sym c.cmp.ensures ∙ c.in-Equal.is)

pub returns-in-Greater-clause-stopped : goal.returns-in-Greater-clause-stopped
returns-in-Greater-clause-stopped g c =
    all_greater g.K.Ord.cmp g.met.K.Ord.total c.loop-pairs.pairs c.first.ensures.0 c.first.result.now c.args.key.now c.loop-pairs.invariant.0 c.first.ensures.1
    (sym c.cmp.ensures ∙ c.in-Greater.is)

pub returns-clause-stopped : goal.returns-clause-stopped
returns-clause-stopped g c =
    subst (AllByRecursion (λ e. g.K.Ord.cmp e.0 c.args.key.now ≡ Greater)) (sym (nil_from_length _ (c.is_empty.ensures.0 c.loop-pairs-test.false))) tt
