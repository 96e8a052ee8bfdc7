use Rattle.std.proofs.Common.{◌≡◌, rules, refl}
use Rattle.std.specs.Prelude.{IsTrue}
use Rattle.fc_base.specs.Ranges.{is_range}
use Rattle.fc_set.specs.Items.{items, items_within}
use Rattle.fc_command.specs.SetStep.{refused}
use Rattle.fc_command.proofs.command.sets.walk.Goals as goal

-- room or a copy was refused
pub returns : goal.returns
returns g c o =
    let range : IsTrue (is_range g.K.Ord.cmp c.args.lo c.args.hi) = search rules in
    let given : c.range.result ≡ items_within g.K.Ord.cmp c.args.lo c.args.hi (items c.args.set.now) = search rules in
    refused c.in-Err.e (range, rw (given, c.as_slice.ensures) at c.in-Err.ensures.error) (refl, refl, refl)
