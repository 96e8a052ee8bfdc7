-- Writes in turn through a writing walk.
use Rattle.std.proofs.Common.{◌≡◌, ℕ, zero, suc, ◌+◌, ◌-◌, ◌<◌, ◌≤◌, Bool, true, false, nat_lt, List, [], ◌∷◌, length, drop, get_or, refl, sym, ap, ◌∙◌, arith}
use Rattle.std.proofs.Common.{◌⊎◌, inl, inr}
use Rattle.std.specs.Prelude.{min}
use Rattle.std.proofs.Math.Nat.{min-eq_left, min-eq_right}
use Rattle.std.proofs.lemmas.Bool.{cases_lt}
use Rattle.std.proofs.lemmas.List.{drop_more}
use Rattle.fc_map.specs.Writing.{Stretch, wrote_first, wrote_last, wrote, wrote_all}

module _ {K V : Type 0} where
  -- one write more
  pub write_more : (t n : Stretch K V) (ws : List (Bool × V)) (i : ℕ) (w : Bool × V) (r : Stretch K V) → i < length ws → w ≡ get_or ws i w → wrote t w ≡ n
      → wrote_all t (drop i ws) ≡ r → wrote_all n (drop (i + 1) ws) ≡ r
  write_more t n ws i w r l is e h = ap (λ m. wrote_all m (drop (i + 1) ws)) (sym e) ∙ ap (λ x. wrote_all (wrote t x) (drop (i + 1) ws)) is
      ∙ ap (λ l. wrote_all t l) (sym (drop_more ws i w l)) ∙ h

  pub write_front : (t : Stretch K V) (w : Bool × V) → w.0 ≡ true → t.front < t.back → wrote t w ≡ wrote_first t w.1
  unfolding wrote
  write_front t w is l = let p : nat_lt t.front t.back ≡ true = grind (arith, l) in rw (p, is) refl

  pub write_back : (t : Stretch K V) (w : Bool × V) → w.0 ≡ false → t.front < t.back → wrote t w ≡ wrote_last t w.1
  unfolding wrote
  write_back t w is l = let p : nat_lt t.front t.back ≡ true = grind (arith, l) in rw (p, is) refl

  pub write_none : (t : Stretch K V) (w : Bool × V) → t.back ≤ t.front → wrote t w ≡ t
  unfolding wrote
  write_none t w l = let p : nat_lt t.front t.back ≡ false = grind (arith, l) in rw p refl

  -- no write is left
  pub write_end : (t r : Stretch K V) (ws : List (Bool × V)) (i : ℕ) → length ws ≤ i → wrote_all t (drop i ws) ≡ r → t.list ≡ r.list
  write_end t r ws i l h = ap (λ x. x.list) (ap (λ q. wrote_all t q) (sym (after ws i l)) ∙ h)
    where
      after : (xs : List (Bool × V)) (i : ℕ) → length xs ≤ i → drop i xs ≡ []
      after [] zero l = refl
      after [] (suc i) l = refl
      after (x ∷ xs) zero l = absurd (omega arith)
      after (x ∷ xs) (suc i) l = after xs i (omega arith)

  -- from the stretch s, the first i of the writes made t, and count of them were lent a place
  pub record IsUnderWay (s t : Stretch K V) (ws : List (Bool × V)) (i count : ℕ) : Type 0 where
    pub rest : wrote_all t (drop i ws) ≡ wrote_all s ws
    pub few : count ≤ i
    pub all : count < i → t.back ≤ t.front
    pub sum : count + (t.back - t.front) ≡ s.back - s.front

  pub under_start : (s t : Stretch K V) (ws : List (Bool × V)) → t ≡ s → IsUnderWay s t ws 0 0
  under_start s t ws e = record {
    rest = ap (λ x. wrote_all x ws) e;
    few = omega arith;
    all = λ k. absurd (omega arith);
    sum =
        let d = ap (λ x. x.back - x.front) e in omega arith;
  }

  pub under_front : (s t n : Stretch K V) (ws : List (Bool × V)) (i count : ℕ) (w : Bool × V) → IsUnderWay s t ws i count → i < length ws → w ≡ get_or ws i w
      → w.0 ≡ true → t.front < t.back → n ≡ wrote_first t w.1 → IsUnderWay s n ws (i + 1) (count + 1)
  under_front s t n ws i count w u l is flag k e =
      let a = ap (λ x. x.front) e in
      let b = ap (λ x. x.back) e in
      let few = u.few in
      let sum = u.sum in
      record {
        rest = write_more t n ws i w (wrote_all s ws) l is (write_front t w flag k ∙ sym e) u.rest;
        few = omega arith;
        all = λ m. absurd (let d = u.all (omega arith) in omega arith);
        sum = omega arith;
      }

  pub under_back : (s t n : Stretch K V) (ws : List (Bool × V)) (i count : ℕ) (w : Bool × V) → IsUnderWay s t ws i count → i < length ws → w ≡ get_or ws i w
      → w.0 ≡ false → t.front < t.back → n ≡ wrote_last t w.1 → IsUnderWay s n ws (i + 1) (count + 1)
  under_back s t n ws i count w u l is flag k e =
      let a = ap (λ x. x.front) e in
      let b = ap (λ x. x.back) e in
      let few = u.few in
      let sum = u.sum in
      record {
        rest = write_more t n ws i w (wrote_all s ws) l is (write_back t w flag k ∙ sym e) u.rest;
        few = omega arith;
        all = λ m. absurd (let d = u.all (omega arith) in omega arith);
        sum = omega arith;
      }

  pub under_none : (s t n : Stretch K V) (ws : List (Bool × V)) (i count : ℕ) (w : Bool × V) → IsUnderWay s t ws i count → i < length ws → w ≡ get_or ws i w
      → t.back ≤ t.front → n ≡ t → IsUnderWay s n ws (i + 1) count
  under_none s t n ws i count w u l is k e =
      let a = ap (λ x. x.front) e in
      let b = ap (λ x. x.back) e in
      let few = u.few in
      let sum = u.sum in
      record {
        rest = write_more t n ws i w (wrote_all s ws) l is (write_none t w k ∙ sym e) u.rest;
        few = omega arith;
        all = λ m. omega arith;
        sum = omega arith;
      }

  -- as many were lent a place as there are writes, or as there were places
  pub under_end : (s t : Stretch K V) (ws : List (Bool × V)) (i count : ℕ) → IsUnderWay s t ws i count → i ≡ length ws
      → count ≡ min (length ws) (s.back - s.front)
  under_end s t ws i count u e = least (cases_lt count (length ws))
    where
      least : (count < length ws) ⊎ (length ws ≤ count) → count ≡ min (length ws) (s.back - s.front)
      least (inl k) = let d = u.all (omega arith) in let f : count ≡ s.back - s.front = omega (arith, u.sum) in f ∙ sym (min-eq_right (omega arith))
      least (inr k) = let f : count ≡ length ws = omega (arith, u.few) in f ∙ sym (min-eq_left (omega (arith, u.sum)))
