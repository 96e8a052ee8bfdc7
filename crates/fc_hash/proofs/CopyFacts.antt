-- Copies of pairs, put into a hashed map one after another.
use Rattle.std.proofs.Common.{◌≡◌, ◌<◌, Bool, true, false, List, [], ◌∷◌, ◌++◌, Option, None, Some, length, get_or, inl, inr, sym, ap, ◌∙◌, subst, append_assoc}
use Rattle.std.proofs.Common.{arith}
use Rattle.std.proofs.lemmas.List.{length-append}
use Rattle.std.proofs.Math.Seq.{get_or-append_seam}
use Rattle.std.proofs.lemmas.List.Sorted.{IsPermutation-sym, IsPermutation-trans, IsPermutation-cons, IsPermutation-to_front, All-permutation}
use Rattle.std.proofs.lemmas.Slice.Zip.{all_zipped_more}
use Rattle.std.proofs.lemmas.Bool.{both_ways}
use Rattle.std.proofs.lemmas.List.Elements.{All-from_recursion, recursion_from_All}
use Rattle.std.proofs.lemmas.Map.Keys.{IsDistinct-head, IsDistinct-tail}
use Rattle.std.specs.Cmp.{IsEquivalence}
use Rattle.std.specs.List.{AllByRecursion, AllZip}
use Rattle.std.specs.List.Sorted.{IsPermutation}
use Rattle.std.specs.Map.{keys_of}
use Rattle.fc_base.specs.declared.try_reserve_error.TryReserveError.{TryReserveError}
use Rattle.fc_base.specs.declared.try_reserve_error.TryReserveError.TheVariants.{AllocError}
use Rattle.fc_base.specs.Copies.{MayRefuseCopies}
use Rattle.fc_hash.specs.Pairs.{IsMap, IsPut}

module _ {X : Type 0} (may_refuse : X → TryReserveError → Type 0) (error : TryReserveError) (all done left rest : List X) (x : X) (e : all ≡ done ++ left)
    (step : left ≡ x ∷ rest) where
  whole : all ≡ done ++ x ∷ rest
  whole = e ∙ ap (λ l. done ++ l) step

  longer : length done < length all
  longer = let long = ap length whole ∙ length-append done (x ∷ rest) in omega (arith, long)

  -- A copy of the next item was refused.
  pub copy_refused : may_refuse x error → MayRefuseCopies may_refuse all error
  copy_refused r = (omega (arith, longer), inr (length done, x, longer, ap (λ l. get_or l (length done) x) whole ∙ get_or-append_seam done x rest x, r))

  -- Room for the next copy was refused.
  pub room_refused : error ≡ AllocError → MayRefuseCopies may_refuse all error
  room_refused r = (omega (arith, longer), inl r)

module _ {K V : Type 0} (eq : K → K → Bool) where
  -- What holds of each key holds of one in the middle.
  at_key : (P : K → Type 0) (ps : List (K × V)) (e : K × V) (rest : List (K × V)) → AllByRecursion P (keys_of (ps ++ e ∷ rest)) → P e.0
  at_key P [] e rest a = a.0
  at_key P (p ∷ ps) e rest a = at_key P ps e rest a.1

  -- The keys before a pair are not equal to its own.
  differ_before : (ps : List (K × V)) (e : K × V) (rest : List (K × V)) → IsMap eq (ps ++ e ∷ rest) → AllByRecursion (λ p. eq p.0 e.0 ≡ false) ps
  differ_before [] e rest d = tt
  differ_before (p ∷ ps) e rest d =
      let others = keys_of (ps ++ e ∷ rest) in
      (at_key (λ y. eq p.0 y ≡ false) ps e rest (IsDistinct-head eq p.0 others d), differ_before ps e rest (IsDistinct-tail eq p.0 others d))

  module _ (laws : IsEquivalence eq) (same_key : K → K → Type 0) (same_value : V → V → Type 0) (equal : (a b : K) → same_key a b → eq a b ≡ true) where
    abbrev Copies : List (K × V) → List (K × V) → Type 0
    Copies = AllZip (λ p q. same_key p.0 q.0 × same_value p.1 q.1)

    -- Where a differs from b, so do their copies.
    copy_differs : (a b x y : K) → eq a b ≡ false → same_key a x → same_key b y → eq y x ≡ false
    copy_differs a b x y d s t = sym (laws.congr b y x (equal b y t)) ∙ laws.symm b x ∙ sym (laws.congr a x b (equal a x s)) ∙ d

    copies_differ : (ps cs : List (K × V)) (k copy : K) → AllByRecursion (λ p. eq p.0 k ≡ false) ps → Copies ps cs → same_key k copy
        → AllByRecursion (λ c. eq copy c.0 ≡ false) cs
    copies_differ [] [] k copy d z s = tt
    copies_differ [] (c ∷ cs) k copy d z s = absurd z
    copies_differ (p ∷ ps) [] k copy d z s = absurd z
    copies_differ (p ∷ ps) (c ∷ cs) k copy d z s = (copy_differs p.0 k c.0 copy d.0 z.0.0 s, copies_differ ps cs k copy d.1 z.1 s)

    -- The copy of the next pair was put beside the others.
    copied_on : (ps rest cs made after : List (K × V)) (e copy : K × V) (old : Option V) → IsMap eq (ps ++ e ∷ rest) → Copies ps cs → IsPermutation cs made
        → same_key e.0 copy.0
        → IsPut eq copy.0 copy.1 old made after → IsPermutation (cs ++ copy ∷ []) after
    copied_on ps rest cs made after e copy None distinct z p s put =
        IsPermutation-trans (cs ++ copy ∷ []) (copy ∷ cs) after (IsPermutation-to_front cs copy)
        (IsPermutation-trans (copy ∷ cs) (copy ∷ made) after (IsPermutation-cons copy cs made p) put.1)
    copied_on ps rest cs made after e copy (Some w) distinct z p s put =
        let apart = copies_differ ps cs e.0 copy.0 (differ_before ps e rest distinct) z s in
        let P : K × V → Type 0 = λ c. eq copy.0 c.0 ≡ false in
        let there = (put.0, w) ∷ put.1 in
        let order = IsPermutation-trans cs made there p (IsPermutation-sym there made put.2.1) in
        let not = recursion_from_All P there (All-permutation P cs there order (All-from_recursion P cs apart)) in
        absurd (both_ways (eq copy.0 put.0) not.0 put.2.0)

    -- The pairs that were walked over have copies in the map, and so has the next one.
    pub one_more : (all done left rest cs made after : List (K × V)) (k key : K) (v value : V) (old : Option V) → IsMap eq all → all ≡ done ++ left
        → left ≡ (k, v) ∷ rest → Copies done cs
        → IsPermutation cs made → same_key k key → same_value v value → IsPut eq key value old made after
        → (walked copies : List (K × V)) × (all ≡ walked ++ rest) × AllZip (λ p q. same_key p.0 q.0 × same_value p.1 q.1) walked copies
        × IsPermutation copies after
    one_more all done left rest cs made after k key v value old distinct e step z p s t put =
        let whole : all ≡ done ++ (k, v) ∷ rest = e ∙ ap (λ l. done ++ l) step in (
          done ++ (k, v) ∷ [],
          cs ++ (key, value) ∷ [],
          whole ∙ sym (append_assoc done ((k, v) ∷ []) rest),
          all_zipped_more (λ p q. same_key p.0 q.0 × same_value p.1 q.1) done cs (k, v) (key, value) z (s, t),
          copied_on done rest cs made after (k, v) (key, value) old (subst (IsMap eq) whole distinct) z p s put,
        )
