use Rattle.fc_map.proofs.RangedFacts.{AreOfRange, left_over, removed}
use Rattle.fc_map.proofs.map.BTreeMap.remove_range.Goals as goal

pub invariant_of-self : goal.invariant_of-self
invariant_of-self g c =
    let v = c.remove_between-gone.ensures in
    (v.ascending g.K.Ord.cmp c.self.invariant.0, v.sound, left_over _ _ _ _ v.count c.self.invariant.2)

pub returns : goal.returns
returns g c =
    let r : AreOfRange g.met.R.KeyRange.fits _ _ c.args.self.now _ _ = record {
      sound = rw c.self.view_is at c.self.invariant.1;
      ascending = rw c.self.view_is at c.self.invariant.0;
      ends = c.range_ends-front.ensures.ends;
      from = c.range_ends-front.ensures.front;
      upto = c.range_ends-front.ensures.back;
    } in
    let v = c.remove_between-gone.ensures in
    let gone = removed g.met.R.KeyRange.fits _ _ _ _ _ _ _ r (rw c.self.view_is at v.removed) (rw c.self.view_is at v.count) in
    record { rest = gone.0; count = gone.1; ascending = v.ascending g.K.Ord.cmp c.self.invariant.0; sound = v.sound }
