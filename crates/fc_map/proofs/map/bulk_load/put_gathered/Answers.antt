use Rattle.std.proofs.Common.{ap, ◌∙◌}
use Rattle.fc_map.proofs.LoadFacts.{refused_over}
use Rattle.fc_map.proofs.map.bulk_load.put_gathered.Goals as goal

pub returns-in-Err-clause-error : goal.returns-in-Err-clause-error
returns-in-Err-clause-error g c =
    let same = c.in-Err.ensures.unchanged in
    refused_over g.K.Ord.cmp c.put_each.result c.args.placed.now.pairs c.merge.new.self.pairs c.args.gathered.now.items c.in-Err.items.items
    c.put_each.new.placed.pairs (ap (λ e. e.pairs) same.0) (same.1 ∙ ap (λ v. v.items) c.replace-items.ensures.value) c.put_each.ensures.error

pub returns-in-Err-clause-no_request : goal.returns-in-Err-clause-no_request
returns-in-Err-clause-no_request g c none =
    c.put_each.ensures.no_request (c.in-Err.ensures.unchanged.1 ∙ ap (λ v. v.items) c.replace-items.ensures.value ∙ none)
