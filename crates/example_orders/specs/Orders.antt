-- The orders that rest on one side, in the order in which they are filled: each as the rank of its price and its number, with its quantity.
use Rattle.std.specs.Prelude.{ℕ, ◌<◌, ◌+◌, ◌-◌, ◌^◌, ◌==◌, ◌||◌, nat_lt, if◌then◌else◌, List, [], ◌∷◌, All}
use Rattle.std.specs.List.{sum_by}
use Rattle.std.specs.Ordering.{nat_cmp, ordering_then}
use Rattle.std.specs.declared.cmp.Ordering.{Ordering}
use Rattle.fallible_collections.specs.Words.{put}

abbrev pub Orders : Type 0
Orders = List ((ℕ × ℕ) × ℕ)

-- By the rank, and at one rank by the number.
abbrev pub key_cmp : ℕ × ℕ → ℕ × ℕ → Ordering
key_cmp x y = ordering_then (nat_cmp x.0 y.0) (nat_cmp x.1 y.1)

-- The quantity of all of them.
abbrev pub total : Orders → ℕ
total orders = sum_by (λ o. o.1) orders

-- What rests once one order took so much of them, from the first on, up to the limit's rank.
abbrev pub after_fills : ℕ → ℕ → Orders → Orders
after_fills limit wanted [] = []
after_fills limit wanted (o ∷ os) = if (wanted == 0) || nat_lt limit o.0.0 then o ∷ os else (if nat_lt wanted o.1 then (o.0, o.1 - wanted) ∷ os else after_fills limit (wanted - o.1) os)

-- What that order did not get.
abbrev pub unfilled : ℕ → ℕ → Orders → ℕ
unfilled limit wanted [] = wanted
unfilled limit wanted (o ∷ os) = if (wanted == 0) || nat_lt limit o.0.0 then wanted else (if nat_lt wanted o.1 then 0 else unfilled limit (wanted - o.1) os)

-- What rests with an order put at a key, if anything is left of it.
abbrev pub with_rest : Orders → ℕ × ℕ → ℕ → Orders
with_rest orders key quantity = if quantity == 0 then orders else put key_cmp orders key quantity

-- The number of each is below this one.
abbrev pub AreNumberedBelow : ℕ → Orders → Type 0
AreNumberedBelow next orders = All (λ o. o.0.1 < next) orders

-- No order on one side meets one on the other. The price of a bid is the greatest number less its rank, that of an ask is its rank: so the first is the
-- lower where the ranks together pass the greatest number.
abbrev pub AreApart : Orders → Orders → Type 0
AreApart orders others = All (λ x. All (λ y. 2 ^ 64 - 1 < x.0.0 + y.0.0) others) orders
