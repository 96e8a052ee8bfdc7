use Rattle.std.proofs.Common.{length, ap, ◌∙◌}
use Rattle.fc_laws.specs.Words.{entries, own_order}
use Rattle.fc_laws.proofs.Laws.{length_written}
use Rattle.callers_of_map.proofs.boxes.count_kind.Goals as goal

pub returns-in-Some-clause-counted : goal.returns-in-Some-clause-counted
returns-in-Some-clause-counted g c old there =
    let cmp = g.K.Ord.cmp in
    let count = c.saturating_add.result in
    ap length (c.in-Some.ensures.put c.args.kind count) ∙ length_written cmp cmp (entries c.args.counts.now) c.args.kind c.args.kind old count g.met.K.Ord.total
    (own_order g.met.K.Ord.total) c.in-Some.ensures.ascending there
