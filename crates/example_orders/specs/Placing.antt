-- The side of an order, and what becomes of it.
use Rattle.std.specs.Prelude.{◌≡◌, ℕ, ◌+◌, ◌-◌, ◌^◌, ◌==◌, if◌then◌else◌}
use Rattle.fallible_collections.specs.Words.{reservation_error}
use Rattle.example_orders.specs.Orders.{Orders, total, after_fills, unfilled, with_rest}
use Rattle.example_orders.specs.Sides.{Sides}
use Rattle.example_orders.specs.declared.book.Side.{Side}
use Rattle.example_orders.specs.declared.book.Side.TheVariants.{Buy, Sell}
use Rattle.example_orders.specs.declared.book.Placed.{Placed}
use Rattle.example_orders.specs.declared.book.NotPlaced.{NotPlaced}
use Rattle.example_orders.specs.declared.book.NotPlaced.TheVariants.{NoNumber, Memory}

-- The rank of a price: the more is bid, or the less is asked, the lower.
abbrev pub rank_of : Side → ℕ → ℕ
rank_of Buy price = 2 ^ 64 - 1 - price
rank_of Sell price = price

abbrev pub other_of : Side → Side
other_of Buy = Sell
other_of Sell = Buy

-- The last rank on the other side that an order of this rank meets.
abbrev pub limit_at : ℕ → ℕ
limit_at rank = 2 ^ 64 - 1 - rank

-- The orders of a side, and those that it meets.
abbrev pub orders_of : Side → Sides → Orders
orders_of Buy s = s.bids
orders_of Sell s = s.asks

abbrev pub others_of : Side → Sides → Orders
others_of side s = orders_of (other_of side) s

-- What became of an order of this rank and quantity: of its own side, of the others, and of the next number.
pub record IsPlaced (rank quantity : ℕ) (own others : Orders) (next : ℕ) (placed : Placed) (own_then others_then : Orders) (next_then : ℕ) : Type 0 where
  pub whole : placed.filled + placed.resting ≡ quantity
  pub resting : placed.resting ≡ unfilled (limit_at rank) quantity others
  pub matched : others_then ≡ after_fills (limit_at rank) quantity others
  pub filled : total others_then + placed.filled ≡ total others
  pub rests : own_then ≡ with_rest own (rank, next) placed.resting
  pub rested : total own_then ≡ total own + placed.resting
  pub number : placed.number ≡ next
  pub counted : next_then ≡ (if placed.resting == 0 then next else next + 1)

-- Why an order was not placed beside so many of its side: no number was left, or room was refused.
abbrev pub IsRefused : NotPlaced → ℕ → ℕ → Type 0
IsRefused NoNumber orders next = next ≡ 2 ^ 64 - 1
IsRefused (Memory e) orders next = e ≡ reservation_error orders 1
