use Rattle.std.proofs.Common.{◌<◌, ◌∙◌, ap}
use Rattle.std.proofs.lemmas.List.Elements.{All-same}
use Rattle.fallible_collections.specs.Words.{entries, put}
use Rattle.example_orders.specs.Orders.{Orders, key_cmp}
use Rattle.example_orders.proofs.OrderFacts.{all_put}
use Rattle.example_orders.proofs.ladder.Ladder.rest.Goals as goal

pub invariant_of-self : goal.invariant_of-self
invariant_of-self c = All-same (λ o. 0 < o.1) _ _ c.insert_reserved.ensures.put
    (all_put (λ o. 0 < o.1) (entries c.self.inside.orders) c.args.key c.args.quantity c.requires.not_empty c.self.invariant)

pub returns : goal.returns
returns c = c.insert_reserved.ensures.put ∙ ap (λ (s : Orders). put key_cmp s c.args.key c.args.quantity) c.self.view_is
