use Rattle.std.proofs.Common.{◌∙◌, Some, ap, arith}
use Rattle.fallible_collections.specs.Words.{entries}
use Rattle.example_locks.proofs.Lasts.{holds_from}
use Rattle.example_locks.proofs.stretches.reach_after.Goals as goal

pub returns-then-holder-owner-clause-held : goal.returns-then-holder-owner-clause-held
returns-then-holder-owner-clause-held c = λ p f t.
    let l = c.in-Some.ensures.some in
    holds_from (entries c.args.held.now) c.requires _ _ (c.in-Some._at, (c.in-Some.reach, c.in-Some.holder)) l p
    (omega (arith, l.before, c.saturating_add.ensures)) t ∙ ap Some c.if-holder-owner.true
