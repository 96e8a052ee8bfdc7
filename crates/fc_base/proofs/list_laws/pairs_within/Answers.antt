use Rattle.fc_base.proofs.Laws.{within_bounds}
use Rattle.fc_base.proofs.list_laws.pairs_within.Goals as goal

pub returns-clause-bounds : goal.returns-clause-bounds
returns-clause-bounds g c = within_bounds g.K.Ord.cmp
