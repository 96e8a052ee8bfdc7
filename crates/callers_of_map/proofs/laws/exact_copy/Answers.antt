use Rattle.std.proofs.lemmas.Map.Entries.{entries_from_clone}
use Rattle.std.proofs.lemmas.Result.{MatchResult-weaker}
use Rattle.callers_of_map.proofs.laws.exact_copy.Goals as goal

pub returns : goal.returns
returns g c = MatchResult-weaker c.try_clone.result c.try_clone.ensures.copied
    (λ copy z. entries_from_clone g.K.TryClone.same g.V.TryClone.same c.requires.exact.0 c.requires.exact.1 _ _ z) (λ e h. tt)
