use Rattle.std.proofs.Common.{refl}
use Rattle.fc_map.specs.Entries.{entries}
use Rattle.fc_map.proofs.BesideFacts.{first_after, sides_joined}
use Rattle.fc_map.proofs.EntryFacts.{kept_place}
use Rattle.fc_map.proofs.map.BTreeMap.first_entry_after.Goals as goal

pub invariant_of-result : goal.invariant_of-result
invariant_of-result g c = record { place = kept_place c.args.self.now c.locate_after.new.path (c.locate_after.ensures.place.0 c.if-locate_after.true).0 }

pub returns-then-locate_after : goal.returns-then-locate_after
returns-then-locate_after g c =
    let m = c.args.self.now in
    let e = c.locate_after.ensures in
    let parts = sides_joined g.K.Ord.cmp g.Q.Query.order (entries m) (g.Q.Query.sought c.args.key) g.met.Q.Query.fits e.ascending in (
      (refl, λ w. refl, tt),
      record {
        writes_back = tt;
        pair = first_after m c.locate_after.new.path _ _ e.sound parts (e.place.0 c.if-locate_after.true);
        same_map = refl;
        map = refl;
        ascending = e.ascending;
      },
    )
