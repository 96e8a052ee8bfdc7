-- The part of a list between two bounds, as what two cuts of it leave between them.
use Rattle.std.proofs.Common.{◌≡◌, ℕ, ◌-◌, ◌≤◌, Bool, true, false, cond, List, [], ◌∷◌, ◌++◌, length, take, refl, sym, ap, ◌∙◌, arith, append_assoc}
use Rattle.std.proofs.Common.{length-append}
use Rattle.std.specs.Prelude.{◌&&◌}
use Rattle.std.specs.List.{filter}
use Rattle.std.specs.Cmp.{IsTotalOrder}
use Rattle.std.specs.Ordering.{is_lt, is_le, is_gt, is_ge, ordering_reverse}
use Rattle.std.specs.declared.cmp.Ordering.{Ordering}
use Rattle.std.specs.declared.cmp.Ordering.TheVariants.{Less, Equal, Greater}
use Rattle.std.specs.declared.ops.Bound.{Bound}
use Rattle.std.specs.declared.ops.Bound.TheVariants.{Included, Excluded, Unbounded}
use Rattle.std.proofs.lemmas.List.{append_cancel_left, append_cancel_right}
use Rattle.std.proofs.lemmas.List.Elements.{filter-append}
use Rattle.std.proofs.lemmas.List.Sums.{length-filter, count_by-le-length}
use Rattle.std.proofs.Math.Seq.{take-append_seam}
use Rattle.fc_base.specs.Ranges.{starts, stops, is_range, within}

module _ {X : Type 0} where
  filter_twice : (p : X → Bool) (s : List X) → filter p (filter p s) ≡ filter p s
  filter_twice p [] = refl
  filter_twice p (x ∷ s) = go (p x) refl (filter_twice p s)
    where
      go : (b : Bool) → p x ≡ b → filter p (filter p s) ≡ filter p s → filter p (cond b (x ∷ filter p s) (filter p s)) ≡ cond b (x ∷ filter p s) (filter p s)
      go true e i = rw e (ap (λ zs. x ∷ zs) i)
      go false e i = i

  filter_both : (p q : X → Bool) (s : List X) → filter q (filter p s) ≡ filter (λ x. p x && q x) s
  filter_both p q [] = refl
  filter_both p q (x ∷ s) = go (p x) (filter_both p q s)
    where
      go : (b : Bool) → filter q (filter p s) ≡ filter (λ y. p y && q y) s
          → filter q (cond b (x ∷ filter p s) (filter p s)) ≡ cond (b && q x) (x ∷ filter (λ y. p y && q y) s) (filter (λ y. p y && q y) s)
      go true i = elim (q x) as (λ c. cond c (x ∷ filter q (filter p s)) (filter q (filter p s))
          ≡ cond c (x ∷ filter (λ y. p y && q y) s) (filter (λ y. p y && q y) s)) [ true ↦ ap (λ zs. x ∷ zs) i | false ↦ i ]
      go false i = i

  -- Nothing passes before all that passes, or after it.
  none_before : (p : X → Bool) (s a b : List X) → s ≡ a ++ b → b ≡ filter p s → filter p a ≡ []
  none_before p s a b e f =
      let g : filter p b ≡ b = ap (filter p) f ∙ filter_twice p s ∙ sym f in
      append_cancel_right (filter p a) [] b (ap (λ zs. filter p a ++ zs) (sym g) ∙ sym (filter-append p a b) ∙ ap (filter p) (sym e) ∙ sym f)

  -- Where what fails one test passes another, so does what nothing of passes the one.
  others_pass : (p q : X → Bool) (other : (x : X) → p x ≡ false → q x ≡ true) (s : List X) → filter p s ≡ [] → filter q s ≡ s
  others_pass p q other [] e = refl
  others_pass p q other (x ∷ s) e = go (p x) refl e (others_pass p q other s)
    where
      go : (b : Bool) → p x ≡ b → cond b (x ∷ filter p s) (filter p s) ≡ [] → (filter p s ≡ [] → filter q s ≡ s) → filter q (x ∷ s) ≡ x ∷ s
      go true f g i = absurd (cc)
      go false f g i = rw (other x f) (ap (λ zs. x ∷ zs) (i g))

  -- What two cuts of a list leave between them: all from where one test begins to pass to where another ends to.
  pub record IsBetween (lf rf lb : List X) (middle : List X) : Type 0 where
    pub le : length lf ≤ length lb
    pub is : take (length lb - length lf) rf ≡ middle

  pub between_tests : (p q : X → Bool) (other : (x : X) → p x ≡ false → q x ≡ true) (s lf rf lb rb : List X) → lf ++ rf ≡ s → lb ++ rb ≡ s → rf ≡ filter p s
      → lb ≡ filter q s → IsBetween lf rf lb (filter (λ x. p x && q x) s)
  between_tests p q other s lf rf lb rb e f g h =
      let lead : filter q lf ≡ lf = others_pass p q other lf (none_before p s lf rf (sym e) g) in
      let mid = filter q rf in
      let back : lb ≡ lf ++ mid = h ∙ ap (filter q) (sym e) ∙ filter-append q lf rf ∙ ap (λ zs. zs ++ mid) lead in
      let front : rf ≡ mid ++ rb = append_cancel_left lf rf (mid ++ rb) (e ∙ sym f ∙ ap (λ zs. zs ++ rb) back ∙ append_assoc lf mid rb) in
      let long = ap length back ∙ length-append lf mid in
      let n : length lb - length lf ≡ length mid = omega arith in
      record {
        le = omega arith;
        is = ap (take (length lb - length lf)) front ∙ ap (λ k. take k (mid ++ rb)) n ∙ take-append_seam mid rb ∙ ap (filter q) g ∙ filter_both p q s;
      }

module _ {K : Type 0} {cmp : K → K → Ordering} (o : IsTotalOrder cmp) (x a b : K) where
  less_equal : cmp x a ≡ Less → cmp a b ≡ Equal → cmp x b ≡ Less
  less_equal e f =
      let g : cmp b a ≡ Equal = o.antisymm b a ∙ ap ordering_reverse f in
      o.antisymm x b ∙ ap ordering_reverse (o.congr b a x g ∙ o.antisymm a x ∙ ap ordering_reverse e)

  below_le : (r s : Ordering) → cmp x a ≡ r → cmp a b ≡ s → is_ge r ≡ false → is_le s ≡ true → cmp x b ≡ Less
  below_le Less Less e f g h = o.trans x a b e f
  below_le Less Equal e f g h = less_equal e f
  below_le Less Greater e f g h = absurd (cc)
  below_le Equal s e f g h = absurd (cc)
  below_le Greater s e f g h = absurd (cc)

  le_le : (r s : Ordering) → cmp x a ≡ r → cmp a b ≡ s → is_gt r ≡ false → is_le s ≡ true → is_le (cmp x b) ≡ true
  le_le Less Less e f g h = ap is_le (o.trans x a b e f)
  le_le Less Equal e f g h = ap is_le (less_equal e f)
  le_le Less Greater e f g h = absurd (cc)
  le_le Equal s e f g h = ap is_le (o.congr x a b e ∙ f) ∙ h
  le_le Greater s e f g h = absurd (cc)

  le_below : (r s : Ordering) → cmp x a ≡ r → cmp a b ≡ s → is_gt r ≡ false → is_lt s ≡ true → is_lt (cmp x b) ≡ true
  le_below Less Less e f g h = ap is_lt (o.trans x a b e f)
  le_below Less Equal e f g h = absurd (cc)
  le_below Less Greater e f g h = absurd (cc)
  le_below Equal s e f g h = ap is_lt (o.congr x a b e ∙ f) ∙ h
  le_below Greater s e f g h = absurd (cc)

module _ {K : Type 0} {cmp : K → K → Ordering} (o : IsTotalOrder cmp) where
  -- A key before a range's start is not after its end.
  pub not_after : (lo hi : Bound K) → is_range cmp lo hi ≡ true → (x : K) → starts cmp lo x ≡ false → stops cmp hi x ≡ true
  not_after Unbounded hi r x e = absurd (cc)
  not_after (Included a) Unbounded r x e = refl
  not_after (Excluded a) Unbounded r x e = refl
  not_after (Included a) (Included b) r x e = ap is_le (below_le o x a b (cmp x a) (cmp a b) refl refl e r)
  not_after (Included a) (Excluded b) r x e = ap is_lt (below_le o x a b (cmp x a) (cmp a b) refl refl e r)
  not_after (Excluded a) (Included b) r x e = le_le o x a b (cmp x a) (cmp a b) refl refl e r
  not_after (Excluded a) (Excluded b) r x e = le_below o x a b (cmp x a) (cmp a b) refl refl e r

-- No more pairs lie within two bounds than there are.
pub within_fits : {K Q V : Type 0} (cmp : K → Q → Ordering) (lo hi : Bound Q) (s part : List (K × V)) (n most : ℕ) → part ≡ within cmp lo hi s → n ≡ length s
    → n ≤ most → length part ≤ most
within_fits {K} {Q} {V} cmp lo hi s part n most e f h =
    let p = λ (x : K × V). starts cmp lo x.0 && stops cmp hi x.0 in
    let same = ap length e ∙ length-filter p s in
    omega (arith, same, count_by-le-length p s)
