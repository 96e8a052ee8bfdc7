use Rattle.std.proofs.Common.{refl}
use Rattle.fc_command.specs.SetStep.{refused}
use Rattle.fc_command.proofs.command.sets.replace.Goals as goal

-- a new item was refused
pub returns-in-Err : goal.returns-in-Err
returns-in-Err g c o =
    let why = c.in-Err.ensures in
    refused c.in-Err.e (why.new_item, why.error) (rw why.back refl, why.unchanged, refl)
