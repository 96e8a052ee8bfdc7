use Rattle.std.proofs.Common.{◌≡◌, Some, None, ap, ◌∙◌}
use Rattle.std.specs.Option.{option_map}
use Rattle.fc_base.proofs.Laws.{value_at_query, put_by_query}
use Rattle.fc_map.specs.Entries.{entries}
use Rattle.callers_of_map.proofs.queries.set_equal.Goals as goal

pub returns-in-Some-clause-there : goal.returns-in-Some-clause-there
returns-in-Some-clause-there g c =
    λ _. c.in-Some.ensures.put c.args.key.now c.args.value ∙ put_by_query g.K.Ord.cmp g.Q.Query.order (entries c.args.map.now) c.args.key.now c.args.value
    (g.Q.Query.sought c.args.query) g.met.Q.Query.fits c.requires

pub returns-in-Some-clause-absent : goal.returns-in-Some-clause-absent
returns-in-Some-clause-absent g c =
    λ none. absurd (
    let no : Some c.in-Some.held.now ≡ None = c.in-Some.ensures.value ∙ value_at_query g.K.Ord.cmp g.Q.Query.order (entries c.args.map.now) c.args.key.now
    (g.Q.Query.sought c.args.query) g.met.Q.Query.fits c.requires ∙ ap (option_map (λ e. e.1)) none in
    cc
    )
