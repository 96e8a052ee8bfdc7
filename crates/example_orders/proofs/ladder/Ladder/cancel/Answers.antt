use Rattle.std.proofs.Common.{◌<◌, ◌∙◌, ap}
use Rattle.std.proofs.lemmas.List.Elements.{All-same}
use Rattle.fallible_collections.specs.Words.{entries, cut}
use Rattle.example_orders.specs.Orders.{Orders, key_cmp}
use Rattle.example_orders.proofs.OrderFacts.{all_cut}
use Rattle.example_orders.proofs.ladder.Ladder.cancel.Goals as goal

pub invariant_of-self : goal.invariant_of-self
invariant_of-self c = All-same (λ o. 0 < o.1) _ _ c.remove.ensures.rest (all_cut (λ o. 0 < o.1) (entries c.self.inside.orders) c.args.key c.self.invariant)

pub returns-clause-rest : goal.returns-clause-rest
returns-clause-rest c = c.remove.ensures.rest ∙ ap (λ (s : Orders). cut key_cmp s c.args.key) c.self.view_is
