use Rattle.std.proofs.Common.{refl}
use Rattle.fc_base.proofs.JoinedLaws.{halves_joined}
use Rattle.fc_map.specs.Entries.{entries}
use Rattle.fc_map.proofs.BesideFacts.{last_before}
use Rattle.fc_map.proofs.EntryFacts.{kept_place}
use Rattle.fc_map.proofs.map.BTreeMap.last_entry_before.Goals as goal

pub invariant_of-result : goal.invariant_of-result
invariant_of-result g c = record { place = kept_place c.args.self.now c.locate_before.new.path (c.locate_before.ensures.place.0 c.if-locate_before.true).0 }

pub returns-then-locate_before : goal.returns-then-locate_before
returns-then-locate_before g c =
    let m = c.args.self.now in
    let e = c.locate_before.ensures in
    let parts = halves_joined g.K.Ord.cmp g.Q.Query.order (entries m) (g.Q.Query.sought c.args.key) g.met.Q.Query.fits e.ascending in (
      (refl, λ w. refl, tt),
      record {
        writes_back = tt;
        pair = last_before m c.locate_before.new.path _ _ e.sound parts (e.place.0 c.if-locate_before.true);
        same_map = refl;
        map = refl;
        ascending = e.ascending;
      },
    )
