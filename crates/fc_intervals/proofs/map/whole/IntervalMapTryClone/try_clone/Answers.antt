use Rattle.std.proofs.Common.{◌∙◌, sym}
use Rattle.fc_base.proofs.AscendingFacts.{is_equal}
use Rattle.fc_map.specs.Entries.{entries}
use Rattle.fc_intervals.proofs.Copies.{copies_apart}
use Rattle.fc_intervals.proofs.map.whole.IntervalMapTryClone.try_clone.Goals as goal

pub invariant_of-result : goal.invariant_of-result
invariant_of-result g c =
    copies_apart g.K.Ord.cmp g.met.K.Ord.total g.K.TryClone.same g.V.TryClone.same
    (λ a b s. is_equal (g.K.Ord.cmp a b) (sym (g.met.K.Ord.matches_eq a b) ∙ c.requires.2 a b s))
    (entries c.self.inside.map) (entries c.in_ok-map.map) c.in_ok-map.ensures.copied c.self.invariant
