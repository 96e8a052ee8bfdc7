use Rattle.fc_intervals.proofs.JoinedPut.{apart_still, kept_twice, later_after, none_after}
use Rattle.fc_intervals.proofs.map.IntervalMap.join_ends.Goals as goal

pub returns-clause-values : goal.returns-clause-values
returns-clause-values g c = λ p. kept_twice g.V.PartialEq.eq g.met.V.PartialEq.laws _ _ _ (c.join_at.ensures.values p) (c.join_at-2.ensures.values p)

pub returns-clause-start : goal.returns-clause-start
returns-clause-start g c =
    let e = c.join_at.ensures in
    let f = c.join_at-2.ensures in
    none_after g.K.Ord.cmp g.met.K.Ord.total g.V.PartialEq.eq g.met.V.PartialEq.laws c.args.start c.join_at.new.self c.join_at-2.new.self
    (apart_still g.K.Ord.cmp g.met.K.Ord.total g.V.PartialEq.eq g.met.V.PartialEq.laws c.args.end c.args.self.now c.join_at.new.self c.len-len.ensures.apart
    c.join_at.result e.joined e.unchanged)
    c.join_at-2.result f.joined f.none f.unchanged

pub returns-clause-end : goal.returns-clause-end
returns-clause-end g c =
    let e = c.join_at.ensures in
    let f = c.join_at-2.ensures in
    later_after g.K.Ord.cmp g.met.K.Ord.total g.V.PartialEq.eq g.met.V.PartialEq.laws c.args.start c.join_at.new.self c.join_at-2.new.self
    (apart_still g.K.Ord.cmp g.met.K.Ord.total g.V.PartialEq.eq g.met.V.PartialEq.laws c.args.end c.args.self.now c.join_at.new.self c.len-len.ensures.apart
    c.join_at.result e.joined e.unchanged)
    c.args.end c.requires c.join_at-2.result f.joined f.unchanged
    (none_after g.K.Ord.cmp g.met.K.Ord.total g.V.PartialEq.eq g.met.V.PartialEq.laws c.args.end c.args.self.now c.join_at.new.self c.len-len.ensures.apart
    c.join_at.result e.joined e.none e.unchanged)
