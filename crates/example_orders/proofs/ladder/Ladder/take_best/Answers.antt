use Rattle.std.proofs.Common.{◌<◌, ◌≤◌, Option, All, IfSome, IfNone, subst, sym}
use Rattle.std.proofs.lemmas.List.Elements.{All-same}
use Rattle.fallible_collections.specs.Words.{entries}
use Rattle.example_orders.specs.Orders.{Orders}
use Rattle.example_orders.specs.declared.ladder.Fill.{Fill}
use Rattle.example_orders.proofs.FillFacts.{all_positive, fill_within}
use Rattle.example_orders.proofs.ladder.Ladder.take_best.Goals as goal

pub invariant_of-self : goal.invariant_of-self
invariant_of-self c = All-same (λ o. 0 < o.1) _ _ c.take_first.ensures.rest
    (all_positive c.args.limit c.args.wanted (entries c.self.inside.orders) c.self.invariant)

pub returns-clause-some : goal.returns-clause-some
returns-clause-some c = subst (λ (r : Option Fill). IfSome r (λ f. (0 < f.quantity) × (f.quantity ≤ c.args.wanted))) (sym c.take_first.ensures.fill)
    (fill_within c.args.limit c.args.wanted (entries c.self.inside.orders) c.self.invariant c.requires)

pub returns-clause-none : goal.returns-clause-none
returns-clause-none c = subst (λ (s : Orders). IfNone c.take_first.result (All (λ o. c.args.limit < o.0.0) s)) c.self.view_is c.take_first.ensures.none
