use Rattle.std.proofs.Common.{◌≡◌, ap, ◌∙◌, rules, Some}
use Rattle.fc_base.specs.Parts.{value_at}
use Rattle.fc_base.proofs.Laws.{value_at_put_query}
use Rattle.fc_map.specs.Entries.{entries}
use Rattle.callers_of_map.proofs.queries.insert_then_get_equal.Goals as goal

pub returns : goal.returns
returns g c =
    let order = g.Q.Query.order in
    let sought = g.Q.Query.sought c.args.query in
    let found : value_at order (entries c.try_insert.new.self) sought ≡ Some c.args.value = ap (λ s. value_at order s sought) c.in_ok-try_insert.ensures.put
    ∙ value_at_put_query g.K.Ord.cmp order _ c.args.key c.args.value sought g.met.K.Ord.total g.met.Q.Query.fits c.requires in
    search rules
