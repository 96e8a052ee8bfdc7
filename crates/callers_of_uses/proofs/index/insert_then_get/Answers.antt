use Rattle.std.proofs.Common.{ap, ◌∙◌}
use Rattle.std.specs.Ordering.{nat_cmp}
use Rattle.std.proofs.lemmas.Cmp.{nat_cmp_total}
use Rattle.fc_base.specs.Parts.{value_at}
use Rattle.fc_base.proofs.Laws.{value_at_put}
use Rattle.callers_of_uses.proofs.index.insert_then_get.Goals as goal

pub returns-in-Ok-clause-there : goal.returns-in-Ok-clause-there
returns-in-Ok-clause-there c =
    c.copied.ensures ∙ c.get.ensures.row ∙ ap (λ s. value_at nat_cmp s c.args.id) c.in-Ok.ensures.put
    ∙ value_at_put nat_cmp c.args.table.now c.args.id (record { first = c.args.first; second = c.args.second; value = c.args.value }) nat_cmp_total
