use Rattle.std.proofs.Common.{arith}
use Rattle.fallible_collections.specs.Words.{entries}
use Rattle.example_locks.proofs.Holders.{holds}
use Rattle.example_locks.proofs.Releasing.{released_other}
use Rattle.example_locks.proofs.Steps.{cut_released, cut_fewer, end_released, end_fewer}
use Rattle.example_locks.proofs.stretches.give_up.Goals as goal

pub returns-then-holder-owner-clause-released : goal.returns-then-holder-owner-clause-released
returns-then-holder-owner-clause-released c = released_other (entries c.args.held.now) c.requires.apart c.args.owner _ _ c.args.stretch.1.1
    c.if-holder-owner.true (λ b f t. holds (entries c.args.held.now) c.requires.apart b c.args.stretch.1.1
    (record { start = c.args.stretch.0; end = c.args.stretch.1.0; there = c.requires.there; from = omega arith; to = t }))

pub returns-then-start-at-clause-released : goal.returns-then-start-at-clause-released
returns-then-start-at-clause-released c = rw c.remove.ensures.rest (cut_released (entries c.args.held.now) c.requires.apart c.args.stretch.0
    c.args.stretch.1 c.args.owner c.args.start c.requires.there c.if-holder-owner.false c.requires.reaches c.if-start-at.true)

pub returns-then-start-at-clause-fewer : goal.returns-then-start-at-clause-fewer
returns-then-start-at-clause-fewer c = rw c.remove.ensures.rest (cut_fewer (entries c.args.held.now) c.requires.apart c.args.stretch.0
    c.args.stretch.1 c.args.owner c.args.start c.requires.there c.if-holder-owner.false c.requires.reaches)

pub returns-clause-released : goal.returns-clause-released
returns-clause-released c = rw c.end_at.ensures (end_released (entries c.args.held.now) c.requires.apart c.args.stretch.0
    c.args.stretch.1 c.args.owner c.args.start c.requires.there c.if-holder-owner.false c.requires.reaches (omega (arith, c.if-start-at.false)))

pub returns-clause-fewer : goal.returns-clause-fewer
returns-clause-fewer c = rw c.end_at.ensures (end_fewer (entries c.args.held.now) c.requires.apart c.args.stretch.0
    c.args.stretch.1 c.args.owner c.args.start c.requires.there c.if-holder-owner.false c.requires.reaches)
