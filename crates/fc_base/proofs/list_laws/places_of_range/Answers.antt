use Rattle.fc_base.proofs.Laws.{places_are_within}
use Rattle.fc_base.proofs.list_laws.places_of_range.Goals as goal

pub returns : goal.returns
returns g c = λ lo hi s. places_are_within g.K.Ord.cmp lo hi s g.met.K.Ord.total
