-- The last stretch that starts before a byte and goes on after another, and who holds the bytes from there on.
use Rattle.std.proofs.Common.{◌≡◌, ◌∙◌, ℕ, ◌≤◌, ◌<◌, ◌⊎◌, inl, inr, true, List, None, Some, refl, sym, ap, subst, arith}
use Rattle.std.specs.Option.{option_map}
use Rattle.std.specs.Ordering.{nat_cmp, is_lt}
use Rattle.std.specs.declared.cmp.Ordering.{Ordering}
use Rattle.std.specs.declared.cmp.Ordering.TheVariants.{Less, Equal, Greater}
use Rattle.std.proofs.lemmas.Bool.{cases_order, cases_lt}
use Rattle.std.proofs.lemmas.Map.Keys.{le_from_is_le}
use Rattle.std.proofs.lemmas.Map.Lookups.{exact_unsigned}
use Rattle.fallible_collections.specs.Words.{below, last_item}
use Rattle.fallible_collections.proofs.Laws.{number_total, number_less, exact_pair, last_there, last_passes, last_greatest, last_none}
use Rattle.example_locks.specs.Held.{holder_of, IsIn, AreApart, IsLastIn}
use Rattle.example_locks.proofs.Holders.{Lies, lies, holds, one_value}

-- Who holds a byte from the one up to the other is this owner.
abbrev pub IsOwn : List (ℕ × (ℕ × ℕ)) → ℕ → ℕ → ℕ → Type 0
IsOwn held from to owner = (p : ℕ) → from ≤ p → p < to → (o : ℕ) → holder_of held p ≡ Some o → o ≡ owner

module _ (held : List (ℕ × (ℕ × ℕ))) (a : AreApart held) (from b : ℕ) where
  passes : (s : ℕ) → s < b → is_lt (nat_cmp s b) ≡ true
  passes s l = ap is_lt ((number_less s b).1 l)

  before : (s : ℕ) → is_lt (nat_cmp s b) ≡ true → s < b
  before s h = (number_less s b).0 (go (nat_cmp s b) h)
    where
      go : (r : Ordering) → is_lt r ≡ true → r ≡ Less
      go Less h = refl
      go Equal h = absurd cc
      go Greater h = absurd cc

  greatest : (last : ℕ × (ℕ × ℕ)) → Some last ≡ last_item (below nat_cmp held b) → (s : ℕ) (x : ℕ × ℕ) → IsIn held s x → s < b → s ≤ last.0
  greatest last found s x h l = le_from_is_le s last.0 (last_greatest nat_cmp (λ k. is_lt (nat_cmp k b)) held last s (s, x) number_total a.ascending (sym found)
      (exact_pair nat_cmp held s x exact_unsigned h) (passes s l))

  there : (last : ℕ × (ℕ × ℕ)) → Some last ≡ last_item (below nat_cmp held b) → IsIn held last.0 last.1
  there last found = ap (option_map (λ e. e.1)) (last_there nat_cmp (λ k. is_lt (nat_cmp k b)) held last number_total a.ascending (sym found))

  pub last_some : (last : ℕ × (ℕ × ℕ)) → Some last ≡ last_item (below nat_cmp held b) → from < last.1.0 → IsLastIn held from b last
  last_some last found l = record {
    there = there last found;
    before = before last.0 (last_passes nat_cmp (λ k. is_lt (nat_cmp k b)) held last (sym found));
    reaches = l;
    greatest = greatest last found;
  }

  pub last_short : (last : ℕ × (ℕ × ℕ)) → Some last ≡ last_item (below nat_cmp held b) → last.1.0 ≤ from
      → (s : ℕ) (x : ℕ × ℕ) → IsIn held s x → s < b → x.0 ≤ from
  last_short last found l s x h n = go (cases_order s last.0)
    where
      go : (s ≡ last.0) ⊎ ((s < last.0) ⊎ (last.0 < s)) → x.0 ≤ from
      go (inl q) = let e = ap (λ z. z.0) (one_value x last.1 (sym h ∙ subst (λ k. IsIn held k last.1) (sym q) (there last found))) in omega arith
      go (inr (inl q)) =
          let c = a.apart s last.0 x last.1 h (there last found) q in
          let w = a.whole last.0 last.1 (there last found) in omega arith
      go (inr (inr q)) = let g = greatest last found s x h n in absurd (omega arith)

  pub last_empty : None ≡ last_item (below nat_cmp held b) → (s : ℕ) (x : ℕ × ℕ) → IsIn held s x → s < b → x.0 ≤ from
  last_empty found s x h l =
      absurd (last_none nat_cmp (λ k. is_lt (nat_cmp k b)) held s (s, x) (sym found) (exact_pair nat_cmp held s x exact_unsigned h) (passes s l))

module _ (held : List (ℕ × (ℕ × ℕ))) (a : AreApart held) (from b : ℕ) (last : ℕ × (ℕ × ℕ)) (l : IsLastIn held from b last) where
  -- Who holds a byte from there on up to the limit is the owner of that stretch.
  pub owner_after : (p o : ℕ) → last.0 ≤ p → p < b → Lies held p o → (p < last.1.0) × (o ≡ last.1.1)
  owner_after p o f t m = go (cases_order m.start last.0)
    where
      go : (m.start ≡ last.0) ⊎ ((m.start < last.0) ⊎ (last.0 < m.start)) → (p < last.1.0) × (o ≡ last.1.1)
      go (inl q) =
          let e = one_value (m.end, o) last.1 (sym m.there ∙ subst (λ k. IsIn held k last.1) (sym q) l.there) in
          let end = ap (λ (z : ℕ × ℕ). z.0) e in (omega (arith, m.to), ap (λ (z : ℕ × ℕ). z.1) e)
      go (inr (inl q)) = let c = a.apart m.start last.0 (m.end, o) last.1 m.there l.there q in absurd (omega (arith, m.to))
      go (inr (inr q)) = let g = l.greatest m.start (m.end, o) m.there (omega (arith, m.from)) in absurd (omega arith)

  pub holds_from : (p : ℕ) → last.0 ≤ p → p < last.1.0 → holder_of held p ≡ Some last.1.1
  holds_from p f t = holds held a p last.1.1 (record { start = last.0; end = last.1.0; there = l.there; from = f; to = t })

module _ (held : List (ℕ × (ℕ × ℕ))) (a : AreApart held) (start end owner b : ℕ)
    (own : IsOwn held b end owner) where
  -- Where the last stretch is the owner's, all bytes from its start on are the owner's or nobody's.
  pub own_from : (last : ℕ × (ℕ × ℕ)) → IsLastIn held start b last → last.1.1 ≡ owner → IsOwn held last.0 end owner
  own_from last l same p f t o h = go (cases_lt p b)
    where
      go : (p < b) ⊎ (b ≤ p) → o ≡ owner
      go (inl n) = let q = owner_after held a start b last l p o f n (lies held a p o h) in q.1 ∙ same
      go (inr n) = own p n t o h

  -- So are all bytes of the range where no stretch is left.
  pub own_all : ((s : ℕ) (x : ℕ × ℕ) → IsIn held s x → s < b → x.0 ≤ start) → IsOwn held start end owner
  own_all none p f t o h = go (cases_lt p b) (lies held a p o h)
    where
      go : (p < b) ⊎ (b ≤ p) → Lies held p o → o ≡ owner
      go (inl n) l = let q = none l.start (l.end, o) l.there (omega (arith, l.from)) in absurd (omega (arith, l.to))
      go (inr n) l = own p n t o h
