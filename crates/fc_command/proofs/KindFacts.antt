-- What is done for a command's kind is done for the command.
use Rattle.std.proofs.Common.{◌≡◌, sym, subst, ◌∙◌}
use Rattle.std.specs.declared.cmp.Ordering.{Ordering}
use Rattle.fc_base.specs.declared.try_reserve_error.TryReserveError.{TryReserveError}
use Rattle.fc_lines.specs.declared.command.Command.{Command}
use Rattle.fc_lines.specs.declared.command.Reply.{Reply}
use Rattle.fc_command.specs.declared.command.kinds.Kind.{Kind}
use Rattle.fc_command.specs.declared.command.world.World.{World}
use Rattle.fc_command.specs.Kinds.{kind_of}
use Rattle.fc_command.specs.Step.{StepKind, Step}

module _ {K V Z : Type 0} (cmp : K → K → Ordering) (refuses_key : K → TryReserveError → Type 0) (refuses_value : V → TryReserveError → Type 0) where
  pub step_of : (before after : World K V Z) (c : Command K V) (r : Reply K V) (told found : Kind K V) → told ≡ kind_of c → told ≡ found
      → StepKind cmp refuses_key refuses_value before found r after → Step cmp refuses_key refuses_value before c r after
  step_of before after c r told found of is s = subst (λ k. StepKind cmp refuses_key refuses_value before k r after) (sym is ∙ of) s
