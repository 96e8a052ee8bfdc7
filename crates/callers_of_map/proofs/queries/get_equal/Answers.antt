use Rattle.std.proofs.Common.{◌+◌, ap, ◌∙◌}
use Rattle.std.specs.Prelude.{⊤}
use Rattle.std.specs.declared.cmp.Ordering.{Ordering}
use Rattle.fc_base.proofs.Laws.{alike_query}
use Rattle.fc_map.specs.Entries.{passed_in}
use Rattle.callers_of_map.proofs.queries.get_equal.Goals as goal

pub returns-clause-comparisons : goal.returns-clause-comparisons
returns-clause-comparisons g c =
    let alike = alike_query g.K.Ord.cmp g.Q.Query.order c.args.key.now (g.Q.Query.sought c.args.query) g.met.Q.Query.fits c.requires in
    c.get_counted.ensures.comparisons ∙ ap (λ (f : g.row.K.Denot → Ordering). c.args.count.now.comparisons + passed_in (λ x (u : ⊤). f x) tt c.args.map.now)
    alike
