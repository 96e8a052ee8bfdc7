-- How a run goes on.
use Rattle.std.proofs.Common.{List, [], ◌∷◌, ◌++◌, refl}
use Rattle.std.specs.declared.cmp.Ordering.{Ordering}
use Rattle.fc_base.specs.declared.try_reserve_error.TryReserveError.{TryReserveError}
use Rattle.fc_command.specs.declared.command.world.World.{World}
use Rattle.fc_lines.specs.declared.command.Command.{Command}
use Rattle.fc_lines.specs.declared.command.Reply.{Reply}
use Rattle.fc_command.specs.Step.{Step, Runs}

module _ {K V Z : Type 0} (cmp : K → K → Ordering) (refuses_key : K → TryReserveError → Type 0) (refuses_value : V → TryReserveError → Type 0) where
  -- a run, and one step more
  pub runs_more : (w mid w' : World K V Z) (cs : List (Command K V)) (rs : List (Reply K V)) (c : Command K V) (r : Reply K V)
      → Runs cmp refuses_key refuses_value w cs rs mid → Step cmp refuses_key refuses_value mid c r w'
      → Runs cmp refuses_key refuses_value w (cs ++ c ∷ []) (rs ++ r ∷ []) w'
  runs_more w mid w' [] [] c r e step = (w', rw e at step, refl)
  runs_more w mid w' (c0 ∷ cs) (r0 ∷ rs) c r run step = (run.0, run.1, runs_more run.0 mid w' cs rs c r run.2 step)
  runs_more w mid w' [] (r0 ∷ rs) c r run step = absurd run
  runs_more w mid w' (c0 ∷ cs) [] c r run step = absurd run
