-- Both sides of a book, and the number of the next order that comes to rest.
use Rattle.std.specs.Prelude.{ℕ}
use Rattle.example_orders.specs.Orders.{Orders, AreApart, AreNumberedBelow}

pub record Sides : Type 0 where
  pub bids : Orders
  pub asks : Orders
  pub next : ℕ

-- No bid's price reaches an ask's, and no order has a number that is still to be given.
pub record IsBook (bids asks : Orders) (next : ℕ) : Type 0 where
  pub apart : AreApart bids asks
  pub bids_numbered : AreNumberedBelow next bids
  pub asks_numbered : AreNumberedBelow next asks
