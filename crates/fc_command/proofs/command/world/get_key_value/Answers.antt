use Rattle.std.proofs.Common.{refl}
use Rattle.fc_base.specs.Copies.{MayRefusePair}
use Rattle.fc_command.specs.Step.{refused}
use Rattle.fc_command.proofs.CopyFacts.{refused_found}
use Rattle.fc_command.proofs.command.world.get_key_value.Goals as goal

-- the copy of the key or of the value was refused
pub returns-in-Err : goal.returns-in-Err
returns-in-Err g c o = refused c.in-Err.e (refused_found (MayRefusePair g.K.TryClone.may_refuse g.V.TryClone.may_refuse) _ (
  c.in-Some.held.now,
  c.in-Some.value.now,
) c.in-Err.e c.in-Some.ensures.pair c.in-Err.ensures) (refl, refl, refl)
