use Rattle.std.proofs.Common.{length, sym, ap, ◌∙◌}
use Rattle.fc_base.proofs.Laws.{length_put_there}
use Rattle.callers_of_map.proofs.laws.lengths_of_insert.Goals as goal

pub returns-clause-present : goal.returns-clause-present
returns-clause-present g c = λ there. c.len.ensures.value ∙ ap length c.in_ok-try_insert.ensures.put
    ∙ length_put_there g.K.Ord.cmp _ c.args.key c.args.value g.met.K.Ord.total c.len-before.ensures.ascending there ∙ sym c.len-before.ensures.value
