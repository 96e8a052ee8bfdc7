use Rattle.std.proofs.Common.{refl, subst}
use Rattle.fc_base.specs.Ascending.{IsAscending}
use Rattle.fc_map.specs.Entries.{entries}
use Rattle.fc_map.proofs.EndPairFacts.{first_found}
use Rattle.fc_map.proofs.EntryFacts.{kept_place}
use Rattle.fc_map.proofs.map.BTreeMap.first_entry.Goals as goal

pub invariant_of-result : goal.invariant_of-result
invariant_of-result g c =
    let i = c.self.invariant in
    let gap = c.first_gap_in-path in
    let found = first_found _ _ gap.result c.self.inside.len c.self.view_is i.1 gap.ensures.gap gap.ensures.front i.2 c.if-self-eq0.false in
    record { place = kept_place c.args.self.now gap.result found.0 }

pub returns : goal.returns
returns g c =
    let i = c.self.invariant in
    let gap = c.first_gap_in-path in (
      (refl, λ w. refl, tt),
      record {
        writes_back = tt;
        pair = (first_found _ _ gap.result c.self.inside.len c.self.view_is i.1 gap.ensures.gap gap.ensures.front i.2 c.if-self-eq0.false).1;
        same_map = refl;
        map = refl;
        ascending = subst (λ m. IsAscending g.K.Ord.cmp (entries m)) c.self.view_is i.0;
      },
    )
