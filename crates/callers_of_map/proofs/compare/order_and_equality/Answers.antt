use Rattle.std.proofs.Common.{◌≡◌, sym, ap, ◌∙◌}
use Rattle.std.specs.Ordering.{is_eq}
use Rattle.std.specs.Cmp.{Equal-is}
use Rattle.fc_map.specs.CompareLaws.{pairs_tie}
use Rattle.fc_map.specs.Entries.{entries}
use Rattle.callers_of_map.proofs.compare.order_and_equality.Goals as goal

pub returns : goal.returns
returns g c =
    let tie = pairs_tie g.K.Ord.cmp g.V.Ord.cmp g.met.K.Ord.matches_eq g.met.V.Ord.matches_eq (entries c.args.map.now) (entries c.args.other.now) in
    let same : c.eq.result ≡ is_eq c.cmp.result = c.eq.ensures ∙ tie ∙ ap is_eq (sym c.cmp.ensures) in
    let level = Equal-is c.cmp.result in
    (λ t. level.0 (sym same ∙ t), λ o. same ∙ level.1 o)
