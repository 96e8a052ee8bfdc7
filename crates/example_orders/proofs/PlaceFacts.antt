-- What becomes of an order: it is filled whole, or rests.
use Rattle.std.proofs.Common.{◌≡◌, ◌∙◌, ℕ, ◌<◌, ◌≤◌, ◌+◌, ◌-◌, ◌==◌, refl, ap, sym, subst, arith}
use Rattle.std.specs.Prelude.{if◌then◌else◌}
use Rattle.fallible_collections.specs.Words.{put}
use Rattle.example_orders.specs.Orders.{Orders, key_cmp, total, after_fills, unfilled, with_rest, AreNumberedBelow}
use Rattle.example_orders.specs.Placing.{limit_at, IsPlaced}
use Rattle.example_orders.proofs.OrderFacts.{new_key, total_put}
use Rattle.example_orders.proofs.FillFacts.{not_zero, total_after}

module _ (rank quantity : ℕ) (own others rest : Orders) (next r : ℕ) (missing : r ≡ unfilled (limit_at rank) quantity others) (most : r ≤ quantity)
    (left : rest ≡ after_fills (limit_at rank) quantity others) where
  whole_is : quantity - r + r ≡ quantity
  whole_is = omega arith

  filled_is : total rest + (quantity - r) ≡ total others
  filled_is = let t = ap total left in omega (arith, total_after (limit_at rank) quantity others)

  pub all_filled : r ≡ 0 → IsPlaced rank quantity own others next (record { filled = quantity - r; resting = r; number = next }) own rest next
  all_filled z = record {
    whole = whole_is;
    resting = missing;
    matched = left;
    filled = filled_is;
    rests = subst (λ n. own ≡ with_rest own (rank, next) n) (sym z) refl;
    rested = omega arith;
    number = refl;
    counted = subst (λ n. next ≡ (if n == 0 then next else next + 1)) (sym z) refl;
  }

  pub some_rests : (put_there : Orders) → 0 < r → AreNumberedBelow next own → put_there ≡ put key_cmp own (rank, next) r
      → IsPlaced rank quantity own others next (record { filled = quantity - r; resting = r; number = next }) put_there rest (next + 1)
  some_rests put_there l n p = let e : put key_cmp own (rank, next) r ≡ with_rest own (rank, next) r = rw (not_zero r l) refl in record {
    whole = whole_is;
    resting = missing;
    matched = left;
    filled = filled_is;
    rests = p ∙ e;
    rested = ap total p ∙ total_put own (rank, next) r (new_key rank next own n);
    number = refl;
    counted = rw (not_zero r l) refl;
  }
