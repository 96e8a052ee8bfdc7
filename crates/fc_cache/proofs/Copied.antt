-- Copies of entries, put in one after another in the order of their last use.
use Rattle.std.proofs.Common.{◌≡◌, ◌+◌, ◌<◌, Bool, true, false, List, [], ◌∷◌, ◌++◌, reverse, None, Some, cond, length, get_or, inl, inr}
use Rattle.std.proofs.Common.{refl, sym, ap, ◌∙◌, subst, append_assoc, arith}
use Rattle.std.proofs.lemmas.List.{length-append, reverse-append}
use Rattle.std.proofs.lemmas.List.Elements.{AllZip-push}
use Rattle.std.proofs.lemmas.Map.Keys.{IsDistinct-head, IsDistinct-tail}
use Rattle.std.proofs.Math.Seq.{get_or-append_seam}
use Rattle.std.specs.Cmp.{IsEquivalence}
use Rattle.std.specs.List.{AllByRecursion, IsDistinct}
use Rattle.std.specs.Map.{keys_of, lookup_entry, remove_entry}
use Rattle.std.specs.Option.{option_map_or}
use Rattle.fc_base.specs.declared.try_reserve_error.TryReserveError.{TryReserveError}
use Rattle.fc_base.specs.declared.try_reserve_error.TryReserveError.TheVariants.{AllocError}
use Rattle.fc_base.specs.Copies.{MayRefuseCopies}
use Rattle.fc_cache.specs.declared.held.Held.{Held}
use Rattle.fc_cache.specs.Copied.{AreCopies}
use Rattle.fc_cache.specs.Entries.{key_at, total_cost}
use Rattle.fc_cache.proofs.Costs.{total_cons}
use Rattle.fc_cache.proofs.Reversed.{left_missed}

-- What is left in front of a last item, from the other end.
turned_step : {X : Type 0} (all done left rest : List X) (x : X) → reverse all ≡ done ++ reverse left → left ≡ rest ++ x ∷ []
    → reverse all ≡ done ++ x ∷ reverse rest
turned_step all done left rest x e step = e ∙ ap (λ l. done ++ l) (ap reverse step ∙ reverse-append rest (x ∷ []))

module _ {X : Type 0} (may_refuse : X → TryReserveError → Type 0) (error : TryReserveError) (all done left rest : List X) (x : X)
    (e : reverse all ≡ done ++ reverse left) (step : left ≡ rest ++ x ∷ []) where
  longer : length done < length (reverse all)
  longer = let long = ap length (turned_step all done left rest x e step) ∙ length-append done (x ∷ reverse rest) in omega (arith, long)

  -- A copy of the next item was refused.
  pub copy_refused : may_refuse x error → MayRefuseCopies may_refuse (reverse all) error
  copy_refused r = (
    omega (arith, longer),
    inr (
      length done,
      x,
      longer,
      ap (λ l. get_or l (length done) x) (turned_step all done left rest x e step) ∙ get_or-append_seam done x (reverse rest) x,
      r,
    ),
  )

  -- Room for the next copy was refused.
  pub room_refused : error ≡ AllocError → MayRefuseCopies may_refuse (reverse all) error
  room_refused r = (omega (arith, longer), inl r)

module _ {K V : Type 0} (eq : K → K → Bool) where
  -- What holds of each key holds of one in the middle.
  at_key : (P : K → Type 0) (ps : List (K × Held V)) (e : K × Held V) (rest : List (K × Held V)) → AllByRecursion P (keys_of (ps ++ e ∷ rest)) → P e.0
  at_key P [] e rest a = a.0
  at_key P (p ∷ ps) e rest a = at_key P ps e rest a.1

  -- The keys before an entry are not equal to its own.
  differ_before : (ps : List (K × Held V)) (e : K × Held V) (rest : List (K × Held V)) → IsDistinct eq (keys_of (ps ++ e ∷ rest))
      → AllByRecursion (λ p. eq p.0 e.0 ≡ false) ps
  differ_before [] e rest d = tt
  differ_before (p ∷ ps) e rest d =
      let others = keys_of (ps ++ e ∷ rest) in
      (at_key (λ y. eq p.0 y ≡ false) ps e rest (IsDistinct-head eq p.0 others d), differ_before ps e rest (IsDistinct-tail eq p.0 others d))

  module _ (laws : IsEquivalence eq) (same_key : K → K → Type 0) (same_value : V → V → Type 0) (equal : (a b : K) → same_key a b → eq a b ≡ true) where
    abbrev Copies : List (K × Held V) → List (K × Held V) → Type 0
    Copies = AreCopies same_key same_value

    -- Where a differs from b, so do their copies.
    copy_differs : (a b x y : K) → eq a b ≡ false → same_key a x → same_key b y → eq y x ≡ false
    copy_differs a b x y d s t = sym (laws.congr b y x (equal b y t)) ∙ laws.symm b x ∙ sym (laws.congr a x b (equal a x s)) ∙ d

    -- The copy of a key that differs from others is not among the copies of these.
    copy_missed : (ps cs : List (K × Held V)) (k copy : K) → AllByRecursion (λ p. eq p.0 k ≡ false) ps → Copies ps cs → same_key k copy
        → lookup_entry (eq copy) cs ≡ None
    copy_missed [] [] k copy d z s = refl
    copy_missed [] (c ∷ cs) k copy d z s = absurd z
    copy_missed (p ∷ ps) [] k copy d z s = absurd z
    copy_missed (p ∷ ps) (c ∷ cs) k copy d z s =
        ap (λ b. cond b (Some c) (lookup_entry (eq copy) cs)) (copy_differs p.0 k c.0 copy d.0 z.0.0 s) ∙ copy_missed ps cs k copy d.1 z.1 s

    -- The entries that were walked over have copies, and so has the next one.
    pub one_more : (all done left rest made after : List (K × Held V)) (e copy : K × Held V) → IsDistinct eq (keys_of (reverse all))
        → reverse all ≡ done ++ reverse left → left ≡ rest ++ e ∷ [] → Copies done made → same_key e.0 copy.0 → same_value e.1.value copy.1.value
        → copy.1.cost ≡ e.1.cost → after ≡ remove_entry (eq copy.0) made ++ (key_at (eq copy.0) made copy.0, copy.1) ∷ []
        → (walked : List (K × Held V)) × (reverse all ≡ walked ++ reverse rest) × Copies walked after
    one_more all done left rest made after e copy distinct is step z s t cost put =
        let whole = turned_step all done left rest e is step in
        let none = copy_missed done made e.0 copy.0 (differ_before done e (reverse rest) (subst (λ l. IsDistinct eq (keys_of l)) whole distinct)) z s in
        let beside : after ≡ made ++ copy ∷ [] =
        put ∙ (λ i. left_missed (eq copy.0) made none i ++ (option_map_or (λ x. x.0) (none i) copy.0, copy.1) ∷ []) in (
          done ++ e ∷ [],
          whole ∙ sym (append_assoc done (e ∷ []) (reverse rest)),
          subst (Copies (done ++ e ∷ [])) (sym beside) (AllZip-push _ done made e copy z (s, t, cost)),
        )

-- Copies cost what their sources do.
pub copies_cost : {K V : Type 0} (same_key : K → K → Type 0) (same_value : V → V → Type 0) (ps cs : List (K × Held V))
    → AreCopies same_key same_value ps cs → total_cost cs ≡ total_cost ps
copies_cost same_key same_value [] [] z = refl
copies_cost same_key same_value [] (c ∷ cs) z = absurd z
copies_cost same_key same_value (p ∷ ps) [] z = absurd z
copies_cost same_key same_value (p ∷ ps) (c ∷ cs) z =
    total_cons c cs ∙ (λ i. z.0.2 i + copies_cost same_key same_value ps cs z.1 i) ∙ sym (total_cons p ps)
