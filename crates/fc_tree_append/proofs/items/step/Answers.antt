use Rattle.std.proofs.Common.{◌≡◌, ◌∷◌, [], ◌++◌, length, sym, ap, subst, ◌∙◌, arith, append_assoc, length-append}
use denote.Param.{param}
use Rattle.std.specs.List.{AllByRecursion}
use Rattle.std.specs.Ordering.{is_gt}
use Rattle.std.specs.declared.cmp.Ordering.TheVariants.{Less}
use Rattle.fc_base.specs.Ascending.{IsAscending}
use Rattle.fc_base.specs.OneKey.{put}
use Rattle.fc_tree_append.specs.Rising.{with_held, IsHeldAfter}
use Rattle.fc_tree_drain.proofs.Sizes.{front_fits}
use Rattle.fc_tree_build.proofs.StackSizes.{builder_fits}
use Rattle.fc_tree_append.proofs.MergedFacts.{put_at_held, all_less, equal_if, less_left}
use Rattle.fc_tree_append.proofs.items.step.Goals as goal

pub step_over-requires : goal.step_over-requires
step_over-requires g c =
    let none = subst (λ h. IsHeldAfter g.K.Ord.cmp c.args.builder.now.pairs h c.args.key) c.in-None.is c.requires.held in
    let n = ap (λ h. length (with_held [] h c.args.pairs.now)) c.in-None.is in (
      builder_fits (param 0 g.row.K) (param 1 g.row.V) g.row.A g.A.Allocator g.met.A.Handle.small,
      (
        front_fits (param 0 g.row.K) (param 1 g.row.V) g.row.A g.A.Allocator g.met.A.Handle.small,
        (
          subst (AllByRecursion (λ e. g.K.Ord.cmp e.0 c.args.key ≡ Less)) (sym none) tt,
          (subst (λ h. IsAscending g.K.Ord.cmp (with_held c.args.builder.now.pairs h c.args.pairs.now)) c.in-None.is c.requires.order, omega arith),
        ),
      ),
    )

pub returns-in-None-clause-put : goal.returns-in-None-clause-put
returns-in-None-clause-put g c =
    c.step_over.ensures.put
    ∙ ap (λ h. put g.K.Ord.cmp (with_held c.args.builder.now.pairs h c.args.pairs.now) c.args.key c.args.value) (sym c.in-None.is)

pub returns-in-None-clause-room : goal.returns-in-None-clause-room
returns-in-None-clause-room g c =
    let n = ap (λ h. length (with_held [] h c.args.pairs.now)) c.in-None.is in
    omega arith

pub returns-then-is_eq-clause-put : goal.returns-then-is_eq-clause-put
returns-then-is_eq-clause-put g c =
    let same = sym c.cmp.ensures ∙ equal_if _ _ c.is_eq.ensures c.if-is_eq.true in
    let order = subst (λ h. IsAscending g.K.Ord.cmp (with_held c.args.builder.now.pairs h c.args.pairs.now)) c.in-Some.is c.requires.order in
    put_at_held g.K.Ord.cmp g.met.K.Ord.total c.args.builder.now.pairs c.args.pairs.now c.in-Some.pair c.args.key c.args.value order same
    ∙ ap (λ h. put g.K.Ord.cmp (with_held c.args.builder.now.pairs h c.args.pairs.now) c.args.key c.args.value) (sym c.in-Some.is)

pub returns-then-is_eq-clause-same : goal.returns-then-is_eq-clause-same
returns-then-is_eq-clause-same g c = sym c.cmp.ensures ∙ equal_if _ _ c.is_eq.ensures c.if-is_eq.true

pub returns-then-is_eq-clause-room : goal.returns-then-is_eq-clause-room
returns-then-is_eq-clause-room g c = let n = ap (λ h. length (with_held [] h c.args.pairs.now)) c.in-Some.is in omega arith

pub push-requires : goal.push-requires
push-requires g c =
    let n = ap (λ h. length (with_held [] h c.args.pairs.now)) c.in-Some.is in
    (builder_fits (param 0 g.row.K) (param 1 g.row.V) g.row.A g.A.Allocator g.met.A.Handle.small, omega arith)

pub step_over-requires-in-Some : goal.step_over-requires-in-Some
step_over-requires-in-Some g c =
    let front = c.args.builder.now.pairs in
    let back = c.args.pairs.now in
    let n = ap (λ h. length (with_held [] h back)) c.in-Some.is in
    let order = subst (λ h. IsAscending g.K.Ord.cmp (with_held front h back)) c.in-Some.is c.requires.order in
    let first = subst (λ h. IsHeldAfter g.K.Ord.cmp front h c.args.key) c.in-Some.is c.requires.held in
    let less = sym c.cmp.ensures ∙ less_left _ _ c.is_eq.ensures c.if-is_eq.false (ap is_gt c.cmp.ensures ∙ first) in (
      builder_fits (param 0 g.row.K) (param 1 g.row.V) g.row.A g.A.Allocator g.met.A.Handle.small,
      (
        front_fits (param 0 g.row.K) (param 1 g.row.V) g.row.A g.A.Allocator g.met.A.Handle.small,
        (
          subst (AllByRecursion (λ e. g.K.Ord.cmp e.0 c.args.key ≡ Less)) (sym c.push.ensures.pairs)
              (all_less g.K.Ord.cmp g.met.K.Ord.total front back c.in-Some.pair c.args.key order less),
          (
            subst (IsAscending g.K.Ord.cmp) (sym (ap (λ z. z ++ back) c.push.ensures.pairs ∙ append_assoc front (c.in-Some.pair ∷ []) back)) order,
            omega arith,
          ),
        ),
      ),
    )

pub returns-else-is_eq-clause-put : goal.returns-else-is_eq-clause-put
returns-else-is_eq-clause-put g c =
    let front = c.args.builder.now.pairs in
    let back = c.args.pairs.now in
    c.step_over-in-Some.ensures.put
    ∙ ap (λ s. put g.K.Ord.cmp s c.args.key c.args.value) (ap (λ z. z ++ back) c.push.ensures.pairs ∙ append_assoc front (c.in-Some.pair ∷ []) back)
    ∙ ap (λ h. put g.K.Ord.cmp (with_held front h back) c.args.key c.args.value) (sym c.in-Some.is)

pub returns-else-is_eq-clause-room : goal.returns-else-is_eq-clause-room
returns-else-is_eq-clause-room g c =
    let n = ap (λ h. length (with_held [] h c.args.pairs.now)) c.in-Some.is in
    omega arith

pub returns-else-is_eq-clause-filled : goal.returns-else-is_eq-clause-filled
returns-else-is_eq-clause-filled g c =
    let n = ap length c.push.ensures.pairs ∙ length-append c.args.builder.now.pairs (c.in-Some.pair ∷ []) in
    omega arith
