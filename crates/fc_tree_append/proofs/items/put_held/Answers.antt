use Rattle.std.proofs.Common.{[], ◌∷◌, length, sym, ap, ◌∙◌, arith, length-append, append-nil}
use denote.Param.{param}
use Rattle.fc_tree_append.specs.Rising.{with_held}
use Rattle.fc_tree_build.proofs.StackSizes.{builder_fits}
use Rattle.fc_tree_append.proofs.items.put_held.Goals as goal

pub push-requires : goal.push-requires
push-requires g c =
    let n = ap (λ h. length (with_held [] h [])) c.in-Some.is in
    (builder_fits (param 0 g.row.K) (param 1 g.row.V) g.row.A g.A.Allocator g.met.A.Handle.small, omega arith)

pub returns-in-None-clause-pairs : goal.returns-in-None-clause-pairs
returns-in-None-clause-pairs g c =
    sym (append-nil c.args.builder.now.pairs) ∙ ap (λ h. with_held c.args.builder.now.pairs h []) (sym c.in-None.is)

pub returns-in-Some-clause-pairs : goal.returns-in-Some-clause-pairs
returns-in-Some-clause-pairs g c = c.push.ensures.pairs ∙ ap (λ h. with_held c.args.builder.now.pairs h []) (sym c.in-Some.is)

pub returns-in-Some-clause-filled : goal.returns-in-Some-clause-filled
returns-in-Some-clause-filled g c =
    let n = ap length c.push.ensures.pairs ∙ length-append c.args.builder.now.pairs (c.in-Some.pair ∷ []) in
    omega arith
