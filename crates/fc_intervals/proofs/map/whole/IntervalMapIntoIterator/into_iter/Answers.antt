use Rattle.std.proofs.Common.{◌∙◌, sym, subst}
use Rattle.fc_intervals.specs.Stretches.{AreApart}
use Rattle.fc_intervals.proofs.map.whole.IntervalMapIntoIterator.into_iter.Goals as goal

pub returns : goal.returns
returns g c =
    let gives = c.into_iter.ensures.into_iter_gives in
    record {
      into_iter_gives = (
        gives.0 ∙ c.self.view_is,
        gives.1,
        subst (AreApart g.K.Ord.cmp) (sym gives.0) c.self.invariant,
        gives.3,
        gives.4,
      );
    }
