use Rattle.std.proofs.lemmas.List.Filters.{dedup_is}
use Rattle.fc_vec.proofs.vec.try_vec.TryVec.dedup.Goals as goal

pub returns-clause-items : goal.returns-clause-items
returns-clause-items g c = rw (← c.self.view_is) (dedup_is g.T.PartialEq.eq c.self.inside.inner.items c.dedup.new.self.items c.dedup.ensures.filtered)
