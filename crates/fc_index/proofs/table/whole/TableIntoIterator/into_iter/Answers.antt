use Rattle.std.proofs.Common.{◌∙◌}
use Rattle.fc_index.proofs.table.whole.TableIntoIterator.into_iter.Goals as goal

pub returns : goal.returns
returns g c =
    let walk = c.into_iter.ensures.into_iter_gives in
    record { into_iter_gives = (walk.0 ∙ c.self.view_is, walk.1, walk.2, walk.3, walk.4) }
