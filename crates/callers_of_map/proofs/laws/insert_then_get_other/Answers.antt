use Rattle.std.proofs.Common.{◌≡◌, ap, ◌∙◌, rules}
use Rattle.fc_base.proofs.Laws.{value_at_put_other}
use Rattle.fc_base.specs.Parts.{value_at}
use Rattle.fc_map.specs.Entries.{entries}
use Rattle.callers_of_map.proofs.laws.insert_then_get_other.Goals as goal

pub returns-clause-stays : goal.returns-clause-stays
returns-clause-stays g c =
    let cmp = g.K.Ord.cmp in
    let stays : value_at cmp (entries c.try_insert.new.self) c.args.other.now ≡ value_at cmp (entries c.args.map.now) c.args.other.now =
    ap (λ s. value_at cmp s c.args.other.now) c.in_ok-try_insert.ensures.put
    ∙ value_at_put_other cmp _ c.args.key c.args.value c.args.other.now g.met.K.Ord.total c.requires in
    search rules
