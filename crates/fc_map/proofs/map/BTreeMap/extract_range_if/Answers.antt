use Rattle.fc_tree_retain.specs.Retained.{AskedAtPair, ExtractsBy, GivenPair, RetainsInTurn}
use Rattle.fc_map.proofs.RangedFacts.{AreOfRange, left_over, replaced}
use Rattle.fc_map.proofs.map.BTreeMap.extract_range_if.Goals as goal

pub invariant_of-self : goal.invariant_of-self
invariant_of-self g c =
    let v = c.extract_between-gone.ensures in
    (v.ascending g.K.Ord.cmp c.self.invariant.0, v.sound, left_over _ _ _ _ v.count c.self.invariant.2)

pub returns-clause-extracted : goal.returns-clause-extracted
returns-clause-extracted g c =
    let v = rw c.self.view_is at c.extract_between-gone.ensures.extracted in
    let r : AreOfRange g.met.R.KeyRange.fits _ _ c.args.self.now _ _ = record {
      sound = rw c.self.view_is at c.self.invariant.1;
      ascending = rw c.self.view_is at c.self.invariant.0;
      ends = c.range_ends-front.ensures.ends;
      from = c.range_ends-front.ensures.front;
      upto = c.range_ends-front.ensures.back;
    } in
    let kept = replaced g.met.R.KeyRange.fits _ _ _ _ _
    (λ x y. RetainsInTurn (ExtractsBy (AskedAtPair g.F.FnMut) (GivenPair g.E.FnMut)) (c.args.pick, c.args.each) x v.0 y) _ v.1 r v.2 v.3 in
    (v.0, v.1, kept.0, kept.1)

pub returns-clause-ascending : goal.returns-clause-ascending
returns-clause-ascending g c = c.extract_between-gone.ensures.ascending g.K.Ord.cmp c.self.invariant.0
