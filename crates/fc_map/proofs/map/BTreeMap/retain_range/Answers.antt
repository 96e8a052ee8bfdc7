use Rattle.fc_tree_retain.specs.Retained.{AskedAtPair, RetainsInTurn}
use Rattle.fc_map.proofs.RangedFacts.{AreOfRange, left_over, replaced}
use Rattle.fc_map.proofs.map.BTreeMap.retain_range.Goals as goal

pub invariant_of-self : goal.invariant_of-self
invariant_of-self g c =
    let v = c.retain_between-gone.ensures in
    (v.ascending g.K.Ord.cmp c.self.invariant.0, v.sound, left_over _ _ _ _ v.count c.self.invariant.2)

pub returns-clause-retained : goal.returns-clause-retained
returns-clause-retained g c =
    let v = rw c.self.view_is at c.retain_between-gone.ensures.retained in
    let r : AreOfRange g.met.R.KeyRange.fits _ _ c.args.self.now _ _ = record {
      sound = rw c.self.view_is at c.self.invariant.1;
      ascending = rw c.self.view_is at c.self.invariant.0;
      ends = c.range_ends-front.ensures.ends;
      from = c.range_ends-front.ensures.front;
      upto = c.range_ends-front.ensures.back;
    } in
    let kept = replaced g.met.R.KeyRange.fits _ _ _ _ _
    (λ x y. RetainsInTurn (AskedAtPair g.F.FnMut) c.args.f x v.0 y) _ v.1 r v.2 v.3 in
    (v.0, v.1, kept.0, kept.1)

pub returns-clause-ascending : goal.returns-clause-ascending
returns-clause-ascending g c = c.retain_between-gone.ensures.ascending g.K.Ord.cmp c.self.invariant.0
