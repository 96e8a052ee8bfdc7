use Rattle.std.proofs.Common.{refl}
use Rattle.fc_tree_retain.proofs.filter.ExtractingFilter.stays.Goals as goal

pub returns-clause-asked : goal.returns-clause-asked
returns-clause-asked g c = (c.pick.result, record { key = _; shown = _; shows = (refl, refl); left = _; called = c.pick.ensures; leaves = refl }, refl, refl)
