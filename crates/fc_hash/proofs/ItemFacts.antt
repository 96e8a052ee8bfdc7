-- Items put into a hashed set one after another, and copies of items.
use Rattle.std.proofs.Common.{◌≡◌, Bool, true, false, List, [], ◌∷◌, ◌++◌, ◌||◌, refl, sym, ap, ◌∙◌, subst, append_assoc}
use Rattle.std.specs.Prelude.{MatchBool}
use Rattle.std.proofs.lemmas.List.Sorted.{IsPermutation-trans, IsPermutation-cons, IsPermutation-to_front, All-permutation}
use Rattle.std.proofs.lemmas.Slice.Zip.{all_zipped_more}
use Rattle.std.proofs.lemmas.List.Elements.{All-from_recursion, recursion_from_All}
use Rattle.std.proofs.lemmas.Map.Keys.{IsDistinct-head, IsDistinct-tail}
use Rattle.std.specs.Cmp.{IsEquivalence}
use Rattle.std.specs.List.{AllByRecursion, AllZip, IsDistinct}
use Rattle.std.specs.List.Sorted.{IsPermutation}
use Rattle.std.specs.Set.{is_member}
use Rattle.fc_hash.specs.ItemsPut.{IsPutIn, ArePutIn}

module _ {T : Type 0} (eq : T → T → Bool) where
  -- One item more.
  pub put_one_more : (items ts us ws : List T) (t : T) → ArePutIn eq ts items us → IsPutIn eq t us ws → ArePutIn eq ts (items ++ t ∷ []) ws
  put_one_more [] ts us ws t same put = (ws, subst (λ l. IsPutIn eq t l ws) same put, refl)
  put_one_more (x ∷ items) ts us ws t first put = (first.0, first.1, put_one_more items first.0 us ws t first.2 put)

  -- What holds of each item holds of one in the middle.
  at_item : (P : T → Type 0) (ts : List T) (t : T) (rest : List T) → AllByRecursion P (ts ++ t ∷ rest) → P t
  at_item P [] t rest a = a.0
  at_item P (x ∷ ts) t rest a = at_item P ts t rest a.1

  -- The items before one are not equal to it.
  differ_before : (ts : List T) (t : T) (rest : List T) → IsDistinct eq (ts ++ t ∷ rest) → AllByRecursion (λ x. eq x t ≡ false) ts
  differ_before [] t rest d = tt
  differ_before (x ∷ ts) t rest d =
      let others = ts ++ t ∷ rest in
      (at_item (λ y. eq x y ≡ false) ts t rest (IsDistinct-head eq x others d), differ_before ts t rest (IsDistinct-tail eq x others d))

  no_member : (us : List T) (t : T) → AllByRecursion (λ u. eq t u ≡ false) us → is_member eq us t ≡ false
  no_member [] t a = refl
  no_member (u ∷ us) t a = let rest = no_member us t a.1 in λ i. a.0 i || rest i

  module _ (laws : IsEquivalence eq) (same : T → T → Type 0) (equal : (a b : T) → same a b → eq a b ≡ true) where
    -- Where a differs from b, so do their copies.
    copy_differs : (a b x y : T) → eq a b ≡ false → same a x → same b y → eq y x ≡ false
    copy_differs a b x y d s t = sym (laws.congr b y x (equal b y t)) ∙ laws.symm b x ∙ sym (laws.congr a x b (equal a x s)) ∙ d

    copies_differ : (ts cs : List T) (t copy : T) → AllByRecursion (λ x. eq x t ≡ false) ts → AllZip same ts cs → same t copy
        → AllByRecursion (λ c. eq copy c ≡ false) cs
    copies_differ [] [] t copy d z s = tt
    copies_differ [] (c ∷ cs) t copy d z s = absurd z
    copies_differ (x ∷ ts) [] t copy d z s = absurd z
    copies_differ (x ∷ ts) (c ∷ cs) t copy d z s = (copy_differs x t c copy d.0 z.0 s, copies_differ ts cs t copy d.1 z.1 s)

    -- The copy of the next item was put beside the others.
    copied_item : (ts rest cs made after : List T) (t copy : T) → IsDistinct eq (ts ++ t ∷ rest) → AllZip same ts cs → IsPermutation cs made → same t copy
        → IsPutIn eq copy made after → IsPermutation (cs ++ copy ∷ []) after
    copied_item ts rest cs made after t copy distinct z p s put =
        let P : T → Type 0 = λ c. eq copy c ≡ false in
        let apart = copies_differ ts cs t copy (differ_before ts t rest distinct) z s in
        let not = recursion_from_All P made (All-permutation P cs made p (All-from_recursion P cs apart)) in
        let beside = subst (λ b. MatchBool b (after ≡ made) (IsPermutation (copy ∷ made) after)) (no_member made copy not) put in
        IsPermutation-trans (cs ++ copy ∷ []) (copy ∷ cs) after (IsPermutation-to_front cs copy)
        (IsPermutation-trans (copy ∷ cs) (copy ∷ made) after (IsPermutation-cons copy cs made p) beside)

    -- The items that were walked over have copies in the set, and so has the next one.
    pub one_item_more : (all done left rest cs made after : List T) (t copy : T) → IsDistinct eq all → all ≡ done ++ left → left ≡ t ∷ rest
        → AllZip same done cs
        → IsPermutation cs made → same t copy → IsPutIn eq copy made after
        → (walked copies : List T) × (all ≡ walked ++ rest) × AllZip same walked copies × IsPermutation copies after
    one_item_more all done left rest cs made after t copy distinct e step z p s put =
        let whole : all ≡ done ++ t ∷ rest = e ∙ ap (λ l. done ++ l) step in (
          done ++ t ∷ [],
          cs ++ copy ∷ [],
          whole ∙ sym (append_assoc done (t ∷ []) rest),
          all_zipped_more same done cs t copy z s,
          copied_item done rest cs made after t copy (subst (IsDistinct eq) whole distinct) z p s put,
        )
