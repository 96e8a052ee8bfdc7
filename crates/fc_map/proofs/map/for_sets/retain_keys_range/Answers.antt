use Rattle.fc_tree_retain.specs.Retained.{AskedAtKey, RetainsInTurn}
use Rattle.fc_map.proofs.RangedFacts.{AreOfRange, left_over, replaced}
use Rattle.fc_map.proofs.map.for_sets.retain_keys_range.Goals as goal

pub invariant_of-map : goal.invariant_of-map
invariant_of-map g c =
    let v = c.retain_keys_between-gone.ensures in
    (v.ascending g.K.Ord.cmp c.map.invariant.0, v.sound, left_over _ _ _ _ v.count c.map.invariant.2)

pub returns-clause-retained : goal.returns-clause-retained
returns-clause-retained g c =
    let v = rw c.map.view_is at c.retain_keys_between-gone.ensures.retained in
    let r : AreOfRange g.met.R.KeyRange.fits _ _ c.args.map.now _ _ = record {
      sound = rw c.map.view_is at c.map.invariant.1;
      ascending = rw c.map.view_is at c.map.invariant.0;
      ends = c.range_ends-front.ensures.ends;
      from = c.range_ends-front.ensures.front;
      upto = c.range_ends-front.ensures.back;
    } in
    let kept = replaced g.met.R.KeyRange.fits _ _ _ _ _
    (λ x y. RetainsInTurn (AskedAtKey g.F.FnMut) c.args.f x v.0 y) _ v.1 r v.2 v.3 in
    (v.0, v.1, kept.0, kept.1)

pub returns-clause-ascending : goal.returns-clause-ascending
returns-clause-ascending g c = c.retain_keys_between-gone.ensures.ascending g.K.Ord.cmp c.map.invariant.0
