use Rattle.std.proofs.Common.{refl}
use Rattle.std.proofs.lemmas.List.Elements.{same_from_all_zip}
use Rattle.fc_set.specs.Items.{items}
use Rattle.fc_command.specs.SetStep.{answered, refused}
use Rattle.fc_command.proofs.command.sets.copy.Goals as goal

-- each item's copy is that item
pub returns-in-Ok : goal.returns-in-Ok
returns-in-Ok g c = answered (λ h. h) (
  refl,
  refl,
  same_from_all_zip g.K.TryClone.same (items c.args.set.now) (items c.in-Ok.items) c.in-Ok.ensures.copied
      c.requires.same,
)

-- a node or a copy was refused
pub returns-in-Err : goal.returns-in-Err
returns-in-Err g c = refused c.in-Err.e c.in-Err.ensures.copied (refl, refl, refl)
