use Rattle.std.proofs.Common.{None, arith}
use Rattle.std.proofs.lemmas.Grind.{common_steps}
use Rattle.std.specs.Prelude.{codes}
use Rattle.std.proofs.lemmas.List.Folds.{length-flat_map-take}
use Rattle.std.proofs.lemmas.Result.{err_from_is_err_and}
use Rattle.fc_lines.specs.Texts.{step_text}
use Rattle.fc_lines.proofs.BeginFacts.{item_begun_between}
use Rattle.fc_lines.proofs.replies.write_steps.Goals as goal

pub returns-in_err-write_step-clause-full : goal.returns-in_err-write_step-clause-full
returns-in_err-write_step-clause-full c = grind (
  arith,
  common_steps,
  length-flat_map-take step_text c.args.steps.now c.loop-step.step-index None c.loop-step-test.true,
)

-- the text of the step is begun after those before it
pub returns-in_err-write_step-clause-begun : goal.returns-in_err-write_step-clause-begun
returns-in_err-write_step-clause-begun c =
    let p = err_from_is_err_and c.from_residual-in_err-write_step.result c.from_residual-in_err-write_step.ensures.1 in
    rw p.1 (item_begun_between step_text c.args.steps.now c.loop-step.step-index None c.loop-step-test.true _ _ _
    (codes "list") (codes "\n") c.loop-step.invariant.written c.in_err-write_step.ensures.begun)
