use Rattle.fc_intervals.proofs.Walks.{gaps_are}
use Rattle.fc_intervals.proofs.map.IntervalMap.gaps.Goals as goal

pub returns : goal.returns
returns g c =
    record {
      gaps = gaps_are g.K.Ord.cmp g.met.K.Ord.total c.args.range.end c.args.range.start c.args.self.now c.overlapping.ensures.apart
          c.overlapping.result c.overlapping.ensures.stretches;
    }
