use Rattle.std.proofs.Common.{◌≡◌, ◌∙◌, length, refl, subst}
use Rattle.fc_base.specs.Ascending.{IsAscending}
use Rattle.fc_tree_node.specs.TreePlace.{before_gap_in}
use Rattle.fc_map.specs.Entries.{entries}
use Rattle.fc_map.proofs.EndPairFacts.{last_is}
use Rattle.fc_map.proofs.EntryFacts.{kept_place}
use Rattle.fc_map.proofs.map.BTreeMap.last_entry.Goals as goal

pub invariant_of-result : goal.invariant_of-result
invariant_of-result g c = record { place = kept_place c.args.self.now c.step_to_previous-path.result c.step_to_previous-path.ensures.place }

pub returns : goal.returns
returns g c =
    let gap = c.last_gap_in-gap in
    let path = c.step_to_previous-path in
    let all = subst (λ m. length (before_gap_in m gap.result) ≡ length (entries m)) c.self.view_is gap.ensures.back in (
      (refl, λ w. refl, tt),
      record {
        writes_back = tt;
        pair = last_is c.args.self.now path.result path.ensures.sound path.ensures.place (path.ensures.before ∙ all);
        same_map = refl;
        map = refl;
        ascending = subst (λ m. IsAscending g.K.Ord.cmp (entries m)) c.self.view_is c.self.invariant.0;
      },
    )
