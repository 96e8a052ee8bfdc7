use Rattle.std.proofs.Common.{refl}
use Rattle.fc_base.proofs.JoinedLaws.{halves_joined}
use Rattle.fc_map.specs.Entries.{entries}
use Rattle.fc_map.proofs.BesideFacts.{first_after}
use Rattle.fc_map.proofs.EntryFacts.{kept_place}
use Rattle.fc_map.proofs.map.BTreeMap.first_entry_at_or_after.Goals as goal

pub invariant_of-result : goal.invariant_of-result
invariant_of-result g c = record { place = kept_place c.args.self.now c.locate_from.new.path (c.locate_from.ensures.place.0 c.if-locate_from.true).0 }

pub returns-then-locate_from : goal.returns-then-locate_from
returns-then-locate_from g c =
    let m = c.args.self.now in
    let e = c.locate_from.ensures in
    let parts = halves_joined g.K.Ord.cmp g.Q.Query.order (entries m) (g.Q.Query.sought c.args.key) g.met.Q.Query.fits e.ascending in (
      (refl, λ w. refl, tt),
      record {
        writes_back = tt;
        pair = first_after m c.locate_from.new.path _ _ e.sound parts (e.place.0 c.if-locate_from.true);
        same_map = refl;
        map = refl;
        ascending = e.ascending;
      },
    )
