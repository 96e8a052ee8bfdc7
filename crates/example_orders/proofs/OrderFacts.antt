-- The orders of one side, once one was put in or taken out.
use Rattle.std.proofs.Common.{◌≡◌, ◌∙◌, ℕ, ◌<◌, ◌+◌, ◌-◌, ◌^◌, false, cond, [], ◌∷◌, Option, Some, None, All, refl, ap, sym, subst, arith}
use Rattle.std.specs.Prelude.{unwrap_or}
use Rattle.std.specs.List.{AllByRecursion}
use Rattle.std.specs.Option.{option_map}
use Rattle.std.specs.Ordering.{nat_cmp, ordering_then, is_eq}
use Rattle.std.specs.declared.cmp.Ordering.{Ordering}
use Rattle.std.specs.declared.cmp.Ordering.TheVariants.{Less, Equal, Greater}
use Rattle.std.proofs.lemmas.Cmp.{ranked, by_ranked}
use Rattle.std.proofs.lemmas.List.Elements.{recursion_from_All, All-append, All-cons, All-filter, All-weaker}
use Rattle.std.proofs.lemmas.List.Sums.{sum_by-cons, sum_by-append}
use Rattle.fallible_collections.specs.Words.{at, below, above, put, cut}
use Rattle.example_orders.specs.Orders.{Orders, key_cmp, total, AreNumberedBelow, AreApart}
use Rattle.example_orders.specs.Sides.{IsBook}

module _ (P : (ℕ × ℕ) × ℕ → Type 0) (s : Orders) (k : ℕ × ℕ) where
  pub all_cut : All P s → All P (cut key_cmp s k)
  all_cut h = All-append P (below key_cmp s k) (above key_cmp s k) (All-filter _ P s h) (All-filter _ P s h)

  pub all_put : (v : ℕ) → P (unwrap_or (option_map (λ e. e.0) (at key_cmp s k)) k, v) → All P s → All P (put key_cmp s k v)
  all_put v p h = All-append P (below key_cmp s k) (_ ∷ above key_cmp s k) (All-filter _ P s h) (All-cons P _ (above key_cmp s k) p (All-filter _ P s h))

  pub all_put_new : (v : ℕ) → at key_cmp s k ≡ None → P (k, v) → All P s → All P (put key_cmp s k v)
  all_put_new v n p h = all_put v (subst (λ (a : Option ((ℕ × ℕ) × ℕ)). P (unwrap_or (option_map (λ e. e.0) a) k, v)) (sym n) p) h

-- where none is at a key, what is there beside it is all
module _ (cmp : ℕ × ℕ → ℕ × ℕ → Ordering) (k : ℕ × ℕ) where
  parts_total : (s : Orders) → at cmp s k ≡ None → total (below cmp s k) + total (above cmp s k) ≡ total s
  parts_total [] n = refl
  parts_total (e ∷ es) n = go (cmp e.0 k) refl (parts_total es)
    where
      go : (o : Ordering) → cmp e.0 k ≡ o → (at cmp es k ≡ None → total (below cmp es k) + total (above cmp es k) ≡ total es)
          → total (below cmp (e ∷ es) k) + total (above cmp (e ∷ es) k) ≡ total (e ∷ es)
      go Less c more = let m : at cmp es k ≡ None = rw c at n in rw c (omega
          (arith, more m, sum_by-cons (λ (o : (ℕ × ℕ) × ℕ). o.1) e es, sum_by-cons (λ (o : (ℕ × ℕ) × ℕ). o.1) e (below cmp es k)))
      go Equal c more = let no = rw c at n in absurd cc
      go Greater c more = let m : at cmp es k ≡ None = rw c at n in rw c
          (omega (arith, more m, sum_by-cons (λ (o : (ℕ × ℕ) × ℕ). o.1) e es, sum_by-cons (λ (o : (ℕ × ℕ) × ℕ). o.1) e (above cmp es k)))

-- A new order adds its quantity.
pub total_put : (s : Orders) (k : ℕ × ℕ) (v : ℕ) → at key_cmp s k ≡ None → total (put key_cmp s k v) ≡ total s + v
total_put s k v n =
    let j = unwrap_or (option_map (λ (e : (ℕ × ℕ) × ℕ). e.0) (at key_cmp s k)) k in
    omega (
      arith,
      parts_total key_cmp k s n,
      sum_by-append (λ (o : (ℕ × ℕ) × ℕ). o.1) (below key_cmp s k) ((j, v) ∷ above key_cmp s k),
      sum_by-cons (λ (o : (ℕ × ℕ) × ℕ). o.1) (j, v) (above key_cmp s k),
    )

less : (x y : ℕ) → x < y → nat_cmp x y ≡ Less
less x y l = by_ranked (x < y) (x ≡ y) (y < x) (nat_cmp x y) (ranked x y (nat_cmp x y) refl) (λ e p. e) (λ e p. absurd (omega arith))
    (λ e p. absurd (omega arith))

apart_numbers : (x y m n : ℕ) → m < n → is_eq (ordering_then (nat_cmp x y) (nat_cmp m n)) ≡ false
apart_numbers x y m n l = by_ranked (x < y) (x ≡ y) (y < x) (nat_cmp x y) (ranked x y (nat_cmp x y) refl)
    (λ e p. ap (λ o. is_eq (ordering_then o (nat_cmp m n))) e)
    (λ e p. ap (λ o. is_eq (ordering_then o (nat_cmp m n))) e ∙ ap is_eq (less m n l))
    (λ e p. ap (λ o. is_eq (ordering_then o (nat_cmp m n))) e)

-- No order has a number that is still to be given.
pub new_key : (rank next : ℕ) (s : Orders) → AreNumberedBelow next s → at key_cmp s (rank, next) ≡ None
new_key rank next s h = go s (recursion_from_All (λ o. o.0.1 < next) s h)
  where
    go : (s : Orders) → AllByRecursion (λ o. o.0.1 < next) s → at key_cmp s (rank, next) ≡ None
    go [] a = refl
    go (o ∷ os) a = ap (λ b. cond b (Some o) (at key_cmp os (rank, next))) (apart_numbers o.0.0 rank o.0.1 next a.0) ∙ go os a.1

-- An order is put among its own whose rank reaches none of the others.
pub apart_put : (own others : Orders) (rank next v : ℕ) → AreNumberedBelow next own → All (λ o. 2 ^ 64 - 1 - rank < o.0.0) others → AreApart own others
    → AreApart (put key_cmp own (rank, next) v) others
apart_put own others rank next v n b a = all_put_new (λ x. All (λ y. 2 ^ 64 - 1 < x.0.0 + y.0.0) others) own (rank, next) v (new_key rank next own n)
    (All-weaker (λ y. 2 ^ 64 - 1 - rank < y.0.0) (λ y. 2 ^ 64 - 1 < rank + y.0.0) (λ y h. omega arith) others b) a

pub numbered_more : (s : Orders) (next : ℕ) → AreNumberedBelow next s → AreNumberedBelow (next + 1) s
numbered_more s next n = All-weaker (λ o. o.0.1 < next) (λ o. o.0.1 < next + 1) (λ o h. omega arith) s n

pub numbered_put : (own : Orders) (rank next v : ℕ) → AreNumberedBelow next own → AreNumberedBelow (next + 1) (put key_cmp own (rank, next) v)
numbered_put own rank next v n = all_put_new (λ o. o.0.1 < next + 1) own (rank, next) v (new_key rank next own n) (omega arith) (numbered_more own next n)

pub cut_bids : (bids asks : Orders) (next : ℕ) (k : ℕ × ℕ) → IsBook bids asks next → IsBook (cut key_cmp bids k) asks next
cut_bids bids asks next k i = record {
  apart = all_cut (λ x. All (λ y. 2 ^ 64 - 1 < x.0.0 + y.0.0) asks) bids k i.apart;
  bids_numbered = all_cut (λ o. o.0.1 < next) bids k i.bids_numbered;
  asks_numbered = i.asks_numbered;
}

pub cut_asks : (bids asks : Orders) (next : ℕ) (k : ℕ × ℕ) → IsBook bids asks next → IsBook bids (cut key_cmp asks k) next
cut_asks bids asks next k i = record {
  apart = All-weaker (λ x. All (λ y. 2 ^ 64 - 1 < x.0.0 + y.0.0) asks) (λ x. All (λ y. 2 ^ 64 - 1 < x.0.0 + y.0.0) (cut key_cmp asks k))
      (λ x h. all_cut (λ y. 2 ^ 64 - 1 < x.0.0 + y.0.0) asks k h) bids i.apart;
  bids_numbered = i.bids_numbered;
  asks_numbered = all_cut (λ o. o.0.1 < next) asks k i.asks_numbered;
}
