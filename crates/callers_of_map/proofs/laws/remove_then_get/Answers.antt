use Rattle.std.proofs.Common.{arith}
use Rattle.std.proofs.lemmas.Grind.{common_steps}
use Rattle.fc_base.proofs.Laws.{value_at_cut_other}
use Rattle.callers_of_map.proofs.laws.remove_then_get.Goals as goal

pub returns-clause-stays : goal.returns-clause-stays
returns-clause-stays g c = grind (arith, common_steps, value_at_cut_other, c.requires)
