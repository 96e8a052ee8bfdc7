-- The ends of inclusive ranges of keys.
use Rattle.std.proofs.Common.{◌≡◌, false, List, refl, ap, ◌∙◌}
use Rattle.std.specs.Prelude.{◌&&◌}
use Rattle.std.specs.Cmp.{IsTotalOrder}
use Rattle.std.specs.Ordering.{is_lt, is_le, is_ge, ordering_reverse}
use Rattle.std.specs.declared.cmp.Ordering.{Ordering}
use Rattle.std.specs.declared.cmp.Ordering.TheVariants.{Less, Equal, Greater}
use Rattle.std.specs.declared.ops.Bound.{Bound}
use Rattle.std.specs.declared.ops.Bound.TheVariants.{Included, Excluded}
use Rattle.std.proofs.lemmas.List.Elements.{filter_agree}
use Rattle.fc_base.specs.Ranges.{starts, stops, within}

module _ {K : Type 0} (cmp : K → K → Ordering) (total : IsTotalOrder cmp) where
  -- Where the end lies before the start, no key lies between them, whether the end is in the range or not.
  pub empty_end : (s e k : K) → is_le (cmp s e) ≡ false
      → (starts cmp (Included s) k && stops cmp (Excluded e) k) ≡ (starts cmp (Included s) k && stops cmp (Included e) k)
  empty_end s e k h = go (cmp k e) refl
    where
      over : (c : Ordering) → cmp s e ≡ c → is_le c ≡ false → cmp e s ≡ Less
      over Less r l = absurd cc
      over Equal r l = absurd cc
      over Greater r l = total.antisymm e s ∙ ap ordering_reverse r

      front : cmp k e ≡ Equal → is_ge (cmp k s) ≡ false
      front r = ap is_ge (total.congr k e s r ∙ over (cmp s e) refl h)

      go : (c : Ordering) → cmp k e ≡ c → (is_ge (cmp k s) && is_lt c) ≡ (is_ge (cmp k s) && is_le c)
      go Less r = refl
      go Greater r = refl
      go Equal r = rw (front r) refl

  -- What two ends hold of the same keys after a start.
  pub within_end : {V : Type 0} (lo hi other : Bound K) (xs : List (K × V))
      → ((k : K) → (starts cmp lo k && stops cmp hi k) ≡ (starts cmp lo k && stops cmp other k))
      → within cmp lo hi xs ≡ within cmp lo other xs
  within_end lo hi other xs same = filter_agree _ _ (λ p. same p.0) xs
