use Rattle.std.proofs.Common.{refl}
use Rattle.fc_map.specs.Entries.{entries}
use Rattle.fc_map.proofs.BesideFacts.{last_before, sides_joined}
use Rattle.fc_map.proofs.EntryFacts.{kept_place}
use Rattle.fc_map.proofs.map.BTreeMap.last_entry_at_or_before.Goals as goal

pub invariant_of-result : goal.invariant_of-result
invariant_of-result g c = record { place = kept_place c.args.self.now c.locate_to.new.path (c.locate_to.ensures.place.0 c.if-locate_to.true).0 }

pub returns-then-locate_to : goal.returns-then-locate_to
returns-then-locate_to g c =
    let m = c.args.self.now in
    let e = c.locate_to.ensures in
    let parts = sides_joined g.K.Ord.cmp g.Q.Query.order (entries m) (g.Q.Query.sought c.args.key) g.met.Q.Query.fits e.ascending in (
      (refl, λ w. refl, tt),
      record {
        writes_back = tt;
        pair = last_before m c.locate_to.new.path _ _ e.sound parts (e.place.0 c.if-locate_to.true);
        same_map = refl;
        map = refl;
        ascending = e.ascending;
      },
    )
