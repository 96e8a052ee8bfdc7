use Rattle.std.proofs.Common.{◌<◌, length, rules}
use Rattle.std.proofs.lemmas.Result.{err_from_is_err_and}
use Rattle.fc_command.proofs.CopyFacts.{refused_steps, refused_step}
use Rattle.fc_command.proofs.command.sets.copies.Goals as goal

-- room for all steps was refused
pub returns-in_err-steps-clause-error : goal.returns-in_err-steps-clause-error
returns-in_err-steps-clause-error g c =
    let p = err_from_is_err_and c.from_residual.result c.from_residual.ensures.1 in
    let some : 0 < length c.args.ends.now = search rules in
    rw (p.1, p.2) (refused_steps g.K.TryClone.may_refuse c.args.walk c.args.ends.now some)

-- the copy of a step was refused
pub returns-in_err-step-clause-error : goal.returns-in_err-step-clause-error
returns-in_err-step-clause-error g c =
    let p = err_from_is_err_and c.from_residual-in_err-step.result c.from_residual-in_err-step.ensures.1 in
    rw (p.1, p.2) (refused_step g.K.TryClone.may_refuse c.args.walk c.loop-end.walk c.args.ends.now c.loop-end.steps.items c.loop-end.end-index _ _
    c.in_err-step.field-0.0 c.loop-end-test.true c.loop-end.invariant.given c.step_at.ensures.gives c.in_err-step.ensures)
