use Rattle.std.proofs.Common.{length, sym, ap, ◌∙◌, arith, length-append}
use denote.Param.{param}
use Rattle.std.proofs.lemmas.Cmp.{tied_itself}
use Rattle.fc_base.proofs.Laws.{ascending_back}
use Rattle.fc_tree_drain.proofs.Sizes.{front_fits}
use Rattle.fc_tree_build.proofs.StackSizes.{builder_fits}
use Rattle.fc_tree_append.proofs.MergedFacts.{put_at_next, put_between, head_of}
use Rattle.fc_tree_append.proofs.items.step_over.Goals as goal

pub pass-requires : goal.pass-requires
pass-requires g c =
    let order = ascending_back g.K.Ord.cmp c.args.builder.now.pairs c.args.pairs.now c.requires.order in (
      builder_fits (param 0 g.row.K) (param 1 g.row.V) g.row.A g.A.Allocator g.met.A.Handle.small,
      (
        front_fits (param 0 g.row.K) (param 1 g.row.V) g.row.A g.A.Allocator g.met.A.Handle.small,
        (c.requires.before, (order, omega arith)),
      ),
    )

pub next-own-requires : goal.next-own-requires
next-own-requires g c =
    let n = ap length c.if-pass.ensures.stopped.2 in
    (front_fits (param 0 g.row.K) (param 1 g.row.V) g.row.A g.A.Allocator g.met.A.Handle.small, omega arith)

pub returns-then-pass-clause-put : goal.returns-then-pass-clause-put
returns-then-pass-clause-put g c =
    put_at_next g.K.Ord.cmp g.met.K.Ord.total _ c.pass.new.builder.pairs c.pass.new.pairs c.next-own.new.self c.next-own.result c.args.key c.args.value
    c.requires.order c.if-pass.ensures.pairs c.if-pass.ensures.before c.if-pass.ensures.stopped c.next-own.ensures

pub returns-then-pass-clause-same : goal.returns-then-pass-clause-same
returns-then-pass-clause-same g c =
    let stopped = c.if-pass.ensures.stopped in
    ap (λ z. g.K.Ord.cmp z.0 c.args.key) (head_of _ _ _ _ (sym c.next-own.ensures ∙ stopped.2)) ∙ stopped.3

pub returns-then-pass-clause-room : goal.returns-then-pass-clause-room
returns-then-pass-clause-room g c =
    let next = ap length c.next-own.ensures in
    let both = sym (length-append c.pass.new.builder.pairs c.pass.new.pairs) ∙ ap length c.if-pass.ensures.pairs
    ∙ length-append c.args.builder.now.pairs c.args.pairs.now in
    omega arith

pub returns-clause-put : goal.returns-clause-put
returns-clause-put g c =
    put_between g.K.Ord.cmp g.met.K.Ord.total _ c.pass.new.builder.pairs c.pass.new.pairs c.args.key c.args.value c.if-pass.ensures.pairs
    c.if-pass.ensures.before c.if-pass.ensures.stopped

pub returns-clause-same : goal.returns-clause-same
returns-clause-same g c = tied_itself g.met.K.Ord.total c.args.key

pub returns-clause-room : goal.returns-clause-room
returns-clause-room g c =
    let both = sym (length-append c.pass.new.builder.pairs c.pass.new.pairs) ∙ ap length c.if-pass.ensures.pairs
    ∙ length-append c.args.builder.now.pairs c.args.pairs.now in
    omega arith
