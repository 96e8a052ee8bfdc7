use Rattle.std.proofs.Common.{[], length, ap, arith, refl, inl}
use Rattle.std.proofs.KnownBytes.{Appends-nil}
use Rattle.fc_command.proofs.ServeFacts.{after_nothing}
use Rattle.fc_command.proofs.command.session.serve_within.Goals as goal

pub returns-in-Err : goal.returns-in-Err
returns-in-Err g c = ([], Appends-nil _, (refl, inl (refl, refl)))

pub returns-in-Err-with_capacity : goal.returns-in-Err-with_capacity
returns-in-Err-with_capacity g c = ([], Appends-nil _, (refl, inl (refl, refl)))

pub run_all-requires-clause-room : goal.run_all-requires-clause-room
run_all-requires-clause-room g c = (omega (arith, ap length c.in-Ok.ensures.items), c.in-Ok.ensures.capacity, c.in-Ok-with_capacity.ensures.capacity)

pub run_all-requires-clause-new : goal.run_all-requires-clause-new
run_all-requires-clause-new g c = after_nothing _ c.within-world.ensures c.in-Ok.ensures.items refl
