use Rattle.std.proofs.Common.{refl, sym}
use Rattle.fc_map.proofs.PlaceFacts.{held_pair, open_none, open_cut, replaced}
use Rattle.fc_map.proofs.EntryFacts.{held_key, held_cut, held_place, kept_place, open_key, open_put}
use Rattle.fc_map.proofs.map.BTreeMap.try_entry_counted.Goals as goal

pub invariant_of-result : goal.invariant_of-result
invariant_of-result g c =
    let m = c.args.self.now in
    let path = c.locate.new.path in
    record { place = kept_place m path (held_place g.K.Ord.cmp c.args.key m path c.in-Ok.ensures.found) }

pub returns-in-Ok : goal.returns-in-Ok
returns-in-Ok g c =
    let cmp = g.K.Ord.cmp in
    let m = c.args.self.now in
    let k = c.args.key in
    let path = c.locate.new.path in
    let found = c.in-Ok.ensures.found in
    let sound = c.in-Ok.ensures.sound in (
      (refl, λ w. refl, tt),
      record {
        writes_back = tt;
        ok = refl;
        same_map = refl;
        map = refl;
        path = c.in-Ok.ensures.path;
        pair = sym (held_pair cmp k m path sound found);
        key = held_key cmp k m path sound found;
        writes = λ v. (replaced cmp k m path v sound found).put_is k;
        removes = held_cut cmp k m path sound found;
        ascending = c.in-Ok.ensures.ascending;
        comparisons = c.in-Ok.ensures.comparisons;
        moves = c.in-Ok.ensures.moves;
        bounded = c.in-Ok.ensures.bounded;
      },
    )

pub returns : goal.returns
returns g c =
    let cmp = g.K.Ord.cmp in
    let m = c.args.self.now in
    let k = c.args.key in
    let path = c.locate.new.path in
    let gap = c.in-Err.ensures.gap in
    let sound = c.in-Err.ensures.sound in (
      (refl, λ w. refl, tt),
      record {
        writes_back = tt;
        ok = refl;
        same_map = refl;
        map = refl;
        path = c.in-Err.ensures.path;
        pair = sym (open_none cmp k m path sound gap);
        key = open_key cmp k m path sound gap;
        writes = λ v. open_put cmp k m path v sound gap;
        removes = open_cut cmp k m path sound gap;
        ascending = c.in-Err.ensures.ascending;
        comparisons = c.in-Err.ensures.comparisons;
        moves = c.in-Err.ensures.moves;
        bounded = c.in-Err.ensures.bounded;
      },
    )
