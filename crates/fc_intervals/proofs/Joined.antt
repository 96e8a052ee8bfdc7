-- Two stretches that touch, made one.
use Rattle.std.proofs.Common.{◌≡◌, ◌⊎◌, Bool, true, false, cond, List, [], ◌∷◌, ◌++◌, Option, Some, None, refl, sym, ap, ◌∙◌, subst, inl, inr, append_assoc}
use Rattle.std.specs.Prelude.{◌&&◌, option_to_list}
use Rattle.std.specs.List.{AllByRecursion}
use Rattle.std.specs.Option.{option_map}
use Rattle.std.specs.Cmp.{IsTotalOrder}
use Rattle.std.specs.Ordering.{is_lt, is_le, is_eq, is_ge, ordering_reverse}
use Rattle.std.specs.declared.cmp.Ordering.{Ordering}
use Rattle.std.specs.declared.cmp.Ordering.TheVariants.{Less, Equal}
use Rattle.fc_base.specs.Halves.{not_below}
use Rattle.fc_base.specs.OneKey.{cut}
use Rattle.fc_base.specs.Parts.{at, above, below}
use Rattle.fc_base.proofs.AscendingFacts.{is_equal}
use Rattle.fc_base.proofs.Laws.{parts_joined}
use Rattle.fc_laws.specs.Words.{last_item}
use Rattle.fc_intervals.specs.Joined.{AreJoint, IsDrawnOut, IsJoined}
use Rattle.fc_intervals.specs.Stretches.{AreApart, IsKept, lies, stretch_at, value_at_point}
use Rattle.fc_intervals.specs.declared.stretch.Stretch.{Stretch}
use Rattle.fc_laws.proofs.ListFacts.{found_passes}
use Rattle.fc_laws.proofs.NeighbourLaws.{below_cut, not_below_cut}
use Rattle.fc_intervals.proofs.Lists.{one_value, last_is}
use Rattle.fc_intervals.proofs.Order.{is_less, le_from_not_lt, not_le_from_less, le_from_ge, less_le, le_le}
use Rattle.fc_intervals.proofs.Points.{apart_ascend}
use Rattle.fc_intervals.proofs.Written.{kept_same}

-- the first of two stretches, with the end of the second
abbrev pub both : {K V : Type 0} → K × Stretch K V → Stretch K V → K × Stretch K V
both y z = (y.0, record { end = z.end; value = y.1.value })

module _ {K V : Type 0} (cmp : K → K → Ordering) (o : IsTotalOrder cmp) (y : K × Stretch K V) (k : K) (z : Stretch K V) (t : List (K × Stretch K V)) where
  fewer : (P : K → Type 0) (s : List (K × Stretch K V)) → AllByRecursion (λ e. P e.0) (s ++ y ∷ (k, z) ∷ t) → AllByRecursion (λ e. P e.0) (s ++ both y z ∷ t)
  fewer P [] h = (h.0, h.1.1)
  fewer P (e ∷ s) h = (h.0, fewer P s h.1)

  pub joined_apart : (s : List (K × Stretch K V)) → AreApart cmp (s ++ y ∷ (k, z) ∷ t) → AreApart cmp (s ++ both y z ∷ t)
  joined_apart [] h = (o.trans y.0 k z.end (less_le o y.0 y.1.end k h.0 h.1.0) h.2.0, h.2.1, h.2.2)
  joined_apart (e ∷ s) h = (h.0, fewer (λ x. is_le (cmp e.1.end x) ≡ true) s h.1, joined_apart s h.2)

  module _ (same : V → V → Type 0) (alike : same z.value y.1.value) (touch : cmp y.1.end k ≡ Equal) (p : K) where
    values : Option (K × Stretch K V) → Option V
    values = option_map (λ e. e.1.value)

    -- whichever is found, it has the value that the other has, or one alike
    found : (b : Bool) (x w : K × Stretch K V) (q : Option (K × Stretch K V)) → (w.1.value ≡ x.1.value) ⊎ same x.1.value w.1.value
        → IsKept same (option_map (λ e. e.1.value) (cond b (Some x) q)) (option_map (λ e. e.1.value) (cond b (Some w) q))
    found true x w q h = h
    found false x w q h = kept_same same (option_map (λ e. e.1.value) q)

    later : (b : Bool) (x : K × Stretch K V) (q r : Option (K × Stretch K V))
        → IsKept same (option_map (λ e. e.1.value) q) (option_map (λ e. e.1.value) r)
        → IsKept same (option_map (λ e. e.1.value) (cond b (Some x) q)) (option_map (λ e. e.1.value) (cond b (Some x) r))
    later true x q r h = inl refl
    later false x q r h = h

    pub joined_values : (s : List (K × Stretch K V)) → AreApart cmp (s ++ y ∷ (k, z) ∷ t)
        → IsKept same (value_at_point cmp (s ++ y ∷ (k, z) ∷ t) p) (value_at_point cmp (s ++ both y z ∷ t) p)
    joined_values [] h = go (is_lt (cmp p y.1.end)) refl
      where
        go : (b : Bool) → is_lt (cmp p y.1.end) ≡ b → IsKept same
            (option_map (λ (e : K × Stretch K V). e.1.value) (cond (is_le (cmp y.0 p) && is_lt (cmp p y.1.end)) (Some y)
            (cond (is_le (cmp k p) && is_lt (cmp p z.end)) (Some (k, z)) (stretch_at cmp t p))))
            (option_map (λ (e : K × Stretch K V). e.1.value) (cond (is_le (cmp y.0 p) && is_lt (cmp p z.end)) (Some (both y z)) (stretch_at cmp t p)))
        go true e =
            let before : cmp p k ≡ Less = less_le o p y.1.end k (is_less _ e) h.1.0 in
            rw (e, ap is_lt (o.trans p k z.end before h.2.0), not_le_from_less o p k before)
            (found (is_le (cmp y.0 p) && true) y (both y z) (stretch_at cmp t p) (inl refl))
        go false e =
            let upto : is_le (cmp y.1.end p) ≡ true = le_from_not_lt o p y.1.end e in
            rw (e, ap is_le (less_le o y.0 y.1.end p h.0 upto), le_le o k y.1.end p (le_from_ge o y.1.end k (ap is_ge touch)) upto)
            (found (is_lt (cmp p z.end)) (k, z) (both y z) (stretch_at cmp t p) (inr alike))
    joined_values (e ∷ s) h = later (lies cmp e.0 e.1.end p) e _ _ (joined_values s h.2)

module _ {K V : Type 0} (cmp : K → K → Ordering) (o : IsTotalOrder cmp) (eq : V → V → Bool) (a : K) (s : List (K × Stretch K V)) (apart : AreApart cmp s) where
  -- the second of two stretches that touch at a point, with its start
  second_at : (z : Stretch K V) (m : Option (K × Stretch K V)) → at cmp s a ≡ m → option_map (λ e. e.1) m ≡ Some z → (k : K) × (at cmp s a ≡ Some (k, z))
  second_at z None e h = absurd cc
  second_at z (Some x) e h = (x.0, e ∙ ap (λ w. Some (x.0, w)) (one_value x.1 z h))

  module _ (new : List (K × Stretch K V)) (j : IsJoined cmp eq a s new) where
    abbrev y : K × Stretch K V
    y = j.first

    pub second : (k : K) × (at cmp s a ≡ Some (k, j.second))
    second = second_at j.second (at cmp s a) refl j.joint.starts

    pub whole : j.lead ++ y ∷ (second.0, j.second) ∷ above cmp s a ≡ s
    whole =
        sym (append_assoc j.lead (y ∷ []) ((second.0, j.second) ∷ above cmp s a))
        ∙ ap (λ l. l ++ (second.0, j.second) ∷ above cmp s a) (sym j.before)
        ∙ ap (λ m. below cmp s a ++ (option_to_list m ++ above cmp s a)) (sym second.1)
        ∙ parts_joined cmp s a o (apart_ascend cmp o s apart)

    touch : cmp y.1.end second.0 ≡ Equal
    touch =
        let key : cmp second.0 a ≡ Equal = is_equal _ (found_passes (λ x. is_eq (cmp x.0 a)) s (second.0, j.second) second.1) in
        o.congr y.1.end a second.0 j.joint.touch ∙ o.antisymm a second.0 ∙ ap ordering_reverse key

    pub apart_after : AreApart cmp new
    apart_after = subst (AreApart cmp) (sym j.is) (joined_apart cmp o y second.0 j.second (above cmp s a) j.lead (subst (AreApart cmp) (sym whole) apart))

    pub values_after : (p : K) → IsKept (λ x w. eq w x ≡ true) (value_at_point cmp s p) (value_at_point cmp new p)
    values_after p =
        let parts : AreApart cmp (j.lead ++ y ∷ (second.0, j.second) ∷ above cmp s a) = subst (AreApart cmp) (sym whole) apart in
        let kept : IsKept (λ x w. eq w x ≡ true) (value_at_point cmp (j.lead ++ y ∷ (second.0, j.second) ∷ above cmp s a) p)
        (value_at_point cmp (j.lead ++ both y j.second ∷ above cmp s a) p) =
        joined_values cmp o y second.0 j.second (above cmp s a) (λ x w. eq w x ≡ true) j.joint.equal touch p j.lead parts in
        subst (λ l. IsKept (λ x w. eq w x ≡ true) (value_at_point cmp l p) (value_at_point cmp new p)) whole
        (subst (λ l. IsKept (λ x w. eq w x ≡ true) (value_at_point cmp (j.lead ++ y ∷ (second.0, j.second) ∷ above cmp s a) p) (value_at_point cmp l p))
        (sym j.is) kept)

  -- where the second was taken out, and the last before its place then drawn out to its end, the two are one
  pub joined_by : (t new : List (K × Stretch K V)) (y : K × Stretch K V) (z : Stretch K V) (end : K) → AreJoint cmp eq a s y z → t ≡ cut cmp s a
      → end ≡ z.end → (below cmp t a ≡ []) ⊎ IsDrawnOut cmp a t end new → IsJoined cmp eq a s new
  joined_by t new y z end joint is ends h = elim h as (λ _. IsJoined cmp eq a s new) [
    | inl none ↦ absurd (let no : None ≡ Some y = ap last_item (sym none ∙ same) ∙ joint.last in cc)
    | inr d ↦
        let before : below cmp s a ≡ d.lead ++ d.last ∷ [] = sym same ∙ d.before in
        let first : d.last ≡ y = one_value _ _ (sym (last_is d.lead d.last) ∙ ap last_item (sym before) ∙ joint.last) in
        record {
          first = d.last;
          second = z;
          joint = subst (λ f. AreJoint cmp eq a s f z) (sym first) joint;
          lead = d.lead;
          before = before;
          is = d.is ∙ rw (ends, ap (λ l. not_below cmp l a) is ∙ not_below_cut cmp s a) refl;
        }
  ]
    where
      same : below cmp t a ≡ below cmp s a
      same = ap (λ l. below cmp l a) is ∙ below_cut cmp s a
