use Rattle.std.proofs.Common.{ap₂, ◌∙◌}
use Rattle.std.proofs.lemmas.Result.{IfOk-weaker}
use Rattle.fc_base.specs.Joined.{joined}
use Rattle.fc_base.proofs.JoinedLaws.{joined_halves}
use Rattle.fc_map.specs.Entries.{entries}
use Rattle.callers_of_map.proofs.laws.split_then_append.Goals as goal

pub returns-clause-list : goal.returns-clause-list
returns-clause-list g c =
    let cmp = g.K.Ord.cmp in
    let halves = joined_halves cmp g.Q.Query.order (entries c.args.map.now) (g.Q.Query.sought c.args.key) g.met.Q.Query.fits c.in_ok-part.ensures.ascended in
    IfOk-weaker c.append.result _ _ (λ u j. j ∙ ap₂ (joined cmp) c.in_ok-part.ensures.below c.in_ok-part.ensures.from ∙ halves) c.append.ensures.joined
