use Rattle.std.proofs.Common.{◌≡◌, Some, ap, ◌∙◌}
use Rattle.std.specs.Option.{option_map}
use Rattle.fc_base.proofs.Laws.{at_first, cut_first}
use Rattle.fc_map.specs.Entries.{entries}
use Rattle.callers_of_map.proofs.laws.pop_first.Goals as goal

pub returns : goal.returns
returns g c =
    let first = c.in_ok-key.ensures.key in
    let value : Some c.in_ok-value.value ≡ Some first.0 = c.in_ok-value.ensures.value
    ∙ ap (option_map (λ e. e.1)) (at_first g.K.Ord.cmp _ first.1 c.in_ok-key.key first.0 g.met.K.Ord.total c.first_key.ensures.ascending first.2) in
    let rest : entries c.remove.new.self ≡ first.1 = c.remove.ensures.rest
    ∙ cut_first g.K.Ord.cmp _ first.1 c.in_ok-key.key first.0 g.met.K.Ord.total c.first_key.ensures.ascending first.2 in
    cc first.2
