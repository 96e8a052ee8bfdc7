use Rattle.std.proofs.Common.{sym, subst}
use Rattle.example_orders.specs.Orders.{Orders}
use Rattle.example_orders.specs.Sides.{IsBook}
use Rattle.example_orders.proofs.OrderFacts.{cut_bids, cut_asks}
use Rattle.example_orders.proofs.book.Book.cancel.Goals as goal

pub invariant_of-self : goal.invariant_of-self
invariant_of-self c = subst (λ (s : Orders). IsBook s c.self.inside.asks c.self.inside.next) (sym c.cancel.ensures.rest)
    (cut_bids c.self.inside.bids c.self.inside.asks c.self.inside.next _ c.self.invariant)

pub invariant_of-self-in-Sell : goal.invariant_of-self-in-Sell
invariant_of-self-in-Sell c = subst (λ (s : Orders). IsBook c.self.inside.bids s c.self.inside.next) (sym c.cancel-in-Sell.ensures.rest)
    (cut_asks c.self.inside.bids c.self.inside.asks c.self.inside.next _ c.self.invariant)

pub returns-in-Buy-clause-apart : goal.returns-in-Buy-clause-apart
returns-in-Buy-clause-apart c = (subst (λ (s : Orders). IsBook s c.self.inside.asks c.self.inside.next) (sym c.cancel.ensures.rest)
    (cut_bids c.self.inside.bids c.self.inside.asks c.self.inside.next _ c.self.invariant)).apart

pub returns-in-Sell-clause-apart : goal.returns-in-Sell-clause-apart
returns-in-Sell-clause-apart c = (subst (λ (s : Orders). IsBook c.self.inside.bids s c.self.inside.next) (sym c.cancel-in-Sell.ensures.rest)
    (cut_asks c.self.inside.bids c.self.inside.asks c.self.inside.next _ c.self.invariant)).apart
