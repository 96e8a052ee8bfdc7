use Rattle.std.proofs.Common.{◌≡◌, ◌+◌, ◌≤◌, ◌++◌, length, vec_capacity}
use Rattle.std.specs.Vec.Iter.{into_iter_items}
use Rattle.fc_command.specs.Step.{Runs}
use Rattle.fc_command.proofs.command.world.World.run.Given as goal

-- the commands so far ran, and there is room for the replies to the rest
abbrev pub invariant-loop-command : goal.invariant-loop-command
invariant-loop-command g l = record {
  all : l.fn.commands.items ≡ l.yielded ++ into_iter_items l.command-iterator;
  ran : Runs g.K.Ord.cmp g.K.TryClone.may_refuse g.V.TryClone.may_refuse l.fn.self l.yielded l.replies.items l.self;
  room : length l.replies.items + length (into_iter_items l.command-iterator) ≤ vec_capacity l.replies;
}
