use Rattle.std.proofs.Common.{◌≡◌, ◌≤◌, ◌++◌, take}
use Rattle.std.specs.Prelude.{codes, vec_capacity}
use Rattle.std.specs.List.{flat_map}
use Rattle.fc_lines.specs.Texts.{step_text}
use Rattle.fc_lines.proofs.replies.write_steps.Given as goal

abbrev pub invariant-loop-step : goal.invariant-loop-step
invariant-loop-step l = record {
  written : l.text.items ≡ l.fn.text.items ++ codes "list" ++ flat_map step_text (take l.step-index l.steps);
  room : vec_capacity l.fn.text ≤ vec_capacity l.text;
}
