-- No two stretches are joint where two were joined, nor at another point where none were.
use Rattle.std.proofs.Common.{◌≡◌, ◌⊎◌, Bool, true, false, cond, List, [], ◌∷◌, ◌++◌, Option, Some, None, IsTrue, refl, sym, ap, ◌∙◌, subst, inl, inr}
use Rattle.std.specs.List.{AllByRecursion}
use Rattle.std.specs.Option.{option_map}
use Rattle.std.specs.Cmp.{IsPartialEquivalence, IsTotalOrder}
use Rattle.std.specs.Ordering.{is_lt, is_eq}
use Rattle.std.specs.declared.cmp.Ordering.{Ordering}
use Rattle.std.specs.declared.cmp.Ordering.TheVariants.{Less, Equal}
use Rattle.std.proofs.lemmas.List.Elements.{filter-append}
use Rattle.fc_base.specs.Parts.{at, above, below, value_at}
use Rattle.fc_base.proofs.AscendingFacts.{all_map, all_below, all_above, is_equal}
use Rattle.fc_laws.specs.Words.{last_item}
use Rattle.fc_laws.proofs.ListFacts.{found_passes}
use Rattle.fc_intervals.specs.Joined.{IsJoined, NoneJoint}
use Rattle.fc_intervals.specs.Stretches.{AreApart, IsKept}
use Rattle.fc_intervals.specs.declared.stretch.Stretch.{Stretch}
use Rattle.fc_intervals.proofs.Joined.{apart_after, both, second, whole}
use Rattle.fc_intervals.proofs.Lists.{all_at, all_joined, kept, last_more, not_found, one_value}

-- what is kept twice is kept
pub kept_twice : {V : Type 0} (eq : V → V → Bool) → IsPartialEquivalence eq → (a b c : Option V) → IsKept (λ x y. eq y x ≡ true) a b
    → IsKept (λ x y. eq y x ≡ true) b c → IsKept (λ x y. eq y x ≡ true) a c
kept_twice eq laws None None None p q = tt
kept_twice eq laws None None (Some z) p q = absurd q
kept_twice eq laws None (Some y) c p q = absurd p
kept_twice eq laws (Some x) None c p q = absurd p
kept_twice eq laws (Some x) (Some y) None p q = absurd q
kept_twice eq laws (Some x) (Some y) (Some z) p q = elim p as (λ _. (z ≡ x) ⊎ (eq z x ≡ true)) [
  | inl e ↦ subst (λ w. (z ≡ w) ⊎ (eq z w ≡ true)) e q
  | inr r ↦ elim q as (λ _. (z ≡ x) ⊎ (eq z x ≡ true)) [
    | inl f ↦ inr (ap (λ w. eq w x) f ∙ r)
    | inr s ↦ inr (laws.trans z y x s r)
  ]
]

last_of : {X : Type 0} (s t : List X) (y : X) → last_item (s ++ y ∷ t) ≡ last_item (y ∷ t)
last_of [] t y = refl
last_of (x ∷ []) t y = last_more x y t
last_of (x ∷ z ∷ s) t y = last_more x z (s ++ y ∷ t) ∙ last_of (z ∷ s) t y

module _ {K V : Type 0} (cmp : K → K → Ordering) (o : IsTotalOrder cmp) where
  none_starts : (s : List (K × Stretch K V)) (b : K) → AllByRecursion (λ e. is_eq (cmp e.0 b) ≡ false) s → value_at cmp s b ≡ None
  none_starts s b h = ap (option_map (λ (e : K × Stretch K V). e.1)) (not_found (λ e. is_eq (cmp e.0 b)) s h)

  module _ (eq : V → V → Bool) (laws : IsPartialEquivalence eq) (a : K) (s : List (K × Stretch K V)) (apart : AreApart cmp s)
      (new : List (K × Stretch K V)) (j : IsJoined cmp eq a s new) where
    abbrev first : K × Stretch K V
    first = j.first

    abbrev one : K × Stretch K V
    one = both first j.second

    lead_less : AllByRecursion (λ e. cmp e.0 a ≡ Less) (j.lead ++ first ∷ [])
    lead_less = subst (AllByRecursion (λ e. cmp e.0 a ≡ Less)) j.before (all_below cmp s a)

    first_less : cmp first.0 a ≡ Less
    first_less = all_at (λ e. cmp e.0 a ≡ Less) j.lead [] first lead_less

    front : (l : List (K × Stretch K V)) → AllByRecursion (λ e. cmp e.0 a ≡ Less) (l ++ first ∷ []) → AllByRecursion (λ e. cmp e.0 a ≡ Less) l
    front [] h = tt
    front (e ∷ l) h = (h.0, front l h.1)

    -- where two were joined, none starts
    pub none_joint : NoneJoint cmp eq a new
    none_joint f z joint =
        let none : value_at cmp new a ≡ None =
        ap (λ l. value_at cmp l a) j.is ∙ none_starts (j.lead ++ one ∷ above cmp s a) a
        (all_joined _ j.lead (one ∷ above cmp s a) (all_map _ _ (λ e h. ap is_eq h) j.lead (front j.lead lead_less))
        (ap is_eq first_less, all_map _ _ (λ e h. ap is_eq h) (above cmp s a) (all_above cmp s a))) in
        let no : Some z ≡ None = sym joint.starts ∙ none in
        absurd cc

    -- at a later point those are joint that were
    module _ (b : K) (later : cmp a b ≡ Less) where
      abbrev start : K
      start = (second cmp o eq a s apart new j).0

      abbrev next : K × Stretch K V
      next = (start, j.second)

      parts : j.lead ++ first ∷ next ∷ above cmp s a ≡ s
      parts = whole cmp o eq a s apart new j

      less : (e : K × Stretch K V) → cmp e.0 a ≡ Less → cmp e.0 b ≡ Less
      less e h = o.trans e.0 a b h later

      pass : (e : K × Stretch K V) (l m : List (K × Stretch K V)) → cmp e.0 b ≡ Less → value_at cmp l b ≡ value_at cmp m b
          → value_at cmp (e ∷ l) b ≡ value_at cmp m b
      pass e l m h same = ap (λ r. option_map (λ (x : K × Stretch K V). x.1) (cond (is_eq r) (Some e) (at cmp l b))) h ∙ same

      past : (l m n : List (K × Stretch K V)) → AllByRecursion (λ e. cmp e.0 a ≡ Less) l → value_at cmp m b ≡ value_at cmp n b
          → value_at cmp (l ++ m) b ≡ value_at cmp n b
      past [] m n h same = same
      past (e ∷ l) m n h same = pass e (l ++ m) n (less e h.0) (past l m n h.1 same)

      key : cmp start a ≡ Equal
      key = is_equal _ (found_passes (λ x. is_eq (cmp x.0 a)) s next (second cmp o eq a s apart new j).1)

      next_less : cmp start b ≡ Less
      next_less = o.congr start a b key ∙ later

      abbrev rest : List (K × Stretch K V)
      rest = below cmp (above cmp s a) b

      starts_same : value_at cmp new b ≡ value_at cmp s b
      starts_same =
          let lead = front j.lead lead_less in
          let x : value_at cmp new b ≡ value_at cmp (above cmp s a) b =
          ap (λ l. value_at cmp l b) j.is ∙ past j.lead (one ∷ above cmp s a) (above cmp s a) lead
          (pass one (above cmp s a) (above cmp s a) (less first first_less) refl) in
          let y : value_at cmp s b ≡ value_at cmp (above cmp s a) b =
          ap (λ l. value_at cmp l b) (sym parts) ∙ past j.lead (first ∷ next ∷ above cmp s a) (above cmp s a) lead
          (pass first (next ∷ above cmp s a) (above cmp s a) (less first first_less) (pass next (above cmp s a) (above cmp s a) next_less refl)) in
          x ∙ sym y

      below_past : (l m : List (K × Stretch K V)) → AllByRecursion (λ e. cmp e.0 a ≡ Less) l → below cmp (l ++ m) b ≡ l ++ below cmp m b
      below_past l m h = filter-append (λ e. is_lt (cmp e.0 b)) l m
          ∙ ap (λ z. z ++ below cmp m b) (kept (λ e. is_lt (cmp e.0 b)) l (all_map _ _ (λ e k. ap is_lt (less e k)) l h))

      below_pass : (e : K × Stretch K V) (l : List (K × Stretch K V)) → cmp e.0 b ≡ Less → below cmp (e ∷ l) b ≡ e ∷ below cmp l b
      below_pass e l h = ap (λ r. cond (is_lt r) (e ∷ below cmp l b) (below cmp l b)) h

      new_last : last_item (below cmp new b) ≡ last_item (one ∷ rest)
      new_last = ap last_item (ap (λ l. below cmp l b) j.is ∙ below_past j.lead (one ∷ above cmp s a) (front j.lead lead_less)
          ∙ ap (λ l. j.lead ++ l) (below_pass one (above cmp s a) (less first first_less))) ∙ last_of j.lead rest one

      old_last : last_item (below cmp s b) ≡ last_item (next ∷ rest)
      old_last = ap last_item (ap (λ l. below cmp l b) (sym parts) ∙ below_past j.lead (first ∷ next ∷ above cmp s a) (front j.lead lead_less)
          ∙ ap (λ l. j.lead ++ l) (below_pass first (next ∷ above cmp s a) (less first first_less)
          ∙ ap (λ l. first ∷ l) (below_pass next (above cmp s a) next_less)))
          ∙ last_of j.lead (next ∷ rest) first ∙ last_more first next rest

      pub later_none : NoneJoint cmp eq b s → NoneJoint cmp eq b new
      later_none none f z joint = go rest old_last (sym new_last ∙ joint.last)
        where
          go : (l : List (K × Stretch K V)) → last_item (below cmp s b) ≡ last_item (next ∷ l) → last_item (one ∷ l) ≡ Some f → ⊥
          go [] old is =
              let same : one ≡ f = one_value one f is in
              none next z (record {
                last = old;
                starts = sym starts_same ∙ joint.starts;
                touch = subst (λ (x : K × Stretch K V). cmp x.1.end b ≡ Equal) (sym same) joint.touch;
                equal = laws.trans j.second.value first.1.value z.value (laws.symm j.second.value first.1.value ∙ j.joint.equal)
                    (subst (λ (x : K × Stretch K V). eq x.1.value z.value ≡ true) (sym same) joint.equal);
              })
          go (e ∷ l) old is = none f z (record {
            last = old ∙ last_more next e l ∙ sym (last_more one e l) ∙ is;
            starts = sym starts_same ∙ joint.starts;
            touch = joint.touch;
            equal = joint.equal;
          })

  -- as `join_at` answers it, whether it joined two or not
  module _ (eq : V → V → Bool) (laws : IsPartialEquivalence eq) (a : K) (s new : List (K × Stretch K V)) (apart : AreApart cmp s) where
    pub none_after : (r : Bool) → (IsTrue r → IsJoined cmp eq a s new) → (r ≡ false → NoneJoint cmp eq a s) → (r ≡ false → new ≡ s) → NoneJoint cmp eq a new
    none_after true joined none same = none_joint eq laws a s apart new (joined refl)
    none_after false joined none same = subst (NoneJoint cmp eq a) (sym (same refl)) (none refl)

    pub later_after : (b : K) → cmp a b ≡ Less → (r : Bool) → (IsTrue r → IsJoined cmp eq a s new) → (r ≡ false → new ≡ s) → NoneJoint cmp eq b s
        → NoneJoint cmp eq b new
    later_after b later true joined same none = later_none eq laws a s apart new (joined refl) b later none
    later_after b later false joined same none = subst (NoneJoint cmp eq b) (sym (same refl)) none

    pub apart_still : (r : Bool) → (IsTrue r → IsJoined cmp eq a s new) → (r ≡ false → new ≡ s) → AreApart cmp new
    apart_still true joined same = apart_after cmp o eq a s apart new (joined refl)
    apart_still false joined same = subst (AreApart cmp) (sym (same refl)) apart
