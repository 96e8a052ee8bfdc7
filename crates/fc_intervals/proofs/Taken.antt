-- A stretch that was taken out whole.
use Rattle.std.proofs.Common.{◌≡◌, Bool, true, false, cond, List, [], ◌∷◌, ◌++◌, Option, Some, None, refl, sym, ap, ◌∙◌, subst}
use Rattle.std.specs.List.{AllByRecursion, find}
use Rattle.std.specs.Option.{option_map}
use Rattle.std.specs.Cmp.{IsTotalOrder}
use Rattle.std.specs.Ordering.{is_le}
use Rattle.std.specs.declared.cmp.Ordering.{Ordering}
use Rattle.fc_base.specs.OneKey.{cut}
use Rattle.fc_base.specs.Parts.{at}
use Rattle.fc_base.proofs.Laws.{at_between, cut_between}
use Rattle.fc_intervals.specs.Stretches.{AreApart, lies, stretch_at, value_at_point}
use Rattle.fc_intervals.specs.Taken.{IsTaken}
use Rattle.fc_intervals.specs.declared.stretch.Stretch.{Stretch}
use Rattle.fc_intervals.proofs.Lists.{and_left, and_right, found_after}
use Rattle.fc_intervals.proofs.Order.{is_less}
use Rattle.fc_intervals.proofs.Points.{apart_ascend, apart_rest, ended_before, lead_ends, yet_to_come}

module _ {X : Type 0} where
  -- what was found stands between others
  pub record IsBetween (s : List X) (y : X) : Type 0 where
    pub lead : List X
    pub rest : List X
    pub is : s ≡ lead ++ y ∷ rest

  pub found_between : (p : X → Bool) (s : List X) (y : X) → find p s ≡ Some y → IsBetween s y
  found_between p [] y e = absurd cc
  found_between p (x ∷ s) y e = go (p x) refl (found_between p s y)
    where
      go : (b : Bool) → p x ≡ b → (find p s ≡ Some y → IsBetween s y) → IsBetween (x ∷ s) y
      go true h more =
          let same : Some x ≡ Some y = sym (ap (λ b. cond b (Some x) (find p s)) h) ∙ e in
          let is : x ≡ y = cc in
          record { lead = []; rest = s; is = ap (λ z. z ∷ s) is }
      go false h more =
          let f = more (sym (ap (λ b. cond b (Some x) (find p s)) h) ∙ e) in
          record { lead = x ∷ f.lead; rest = f.rest; is = ap (λ z. x ∷ z) f.is }

module _ {K V : Type 0} (cmp : K → K → Ordering) where
  fewer : (P : K × Stretch K V → Type 0) (s t : List (K × Stretch K V)) (y : K × Stretch K V) → AllByRecursion P (s ++ y ∷ t) → AllByRecursion P (s ++ t)
  fewer P [] t y h = h.1
  fewer P (e ∷ s) t y h = (h.0, fewer P s t y h.1)

  pub apart_without : (s t : List (K × Stretch K V)) (y : K × Stretch K V) → AreApart cmp (s ++ y ∷ t) → AreApart cmp (s ++ t)
  apart_without [] t y a = a.2
  apart_without (e ∷ s) t y a = (a.0, fewer (λ x. is_le (cmp e.1.end x.0) ≡ true) s t y a.1, apart_without s t y a.2)

  module _ (o : IsTotalOrder cmp) where
    -- no point of it is covered, and the others are as they were
    points_without : (s t : List (K × Stretch K V)) (y : K × Stretch K V) (p : K) → AreApart cmp (s ++ y ∷ t)
        → stretch_at cmp (s ++ t) p ≡ cond (lies cmp y.0 y.1.end p) None (stretch_at cmp (s ++ y ∷ t) p)
    points_without s t y p a = go (lies cmp y.0 y.1.end p) refl
      where
        rest : AreApart cmp (y ∷ t)
        rest = apart_rest cmp s (y ∷ t) a

        go : (b : Bool) → lies cmp y.0 y.1.end p ≡ b → stretch_at cmp (s ++ t) p ≡ cond b None (stretch_at cmp (s ++ y ∷ t) p)
        go true h =
            let before = ended_before cmp o y.0 p s (lead_ends cmp s t y a) (and_left (is_le (cmp y.0 p)) _ h) in
            let after = yet_to_come cmp o y.1.end p t rest.1 (is_less _ (and_right (is_le (cmp y.0 p)) _ h)) in
            found_after _ s t before ∙ after
        go false h = same s
          where
            same : (s : List (K × Stretch K V)) → stretch_at cmp (s ++ t) p ≡ stretch_at cmp (s ++ y ∷ t) p
            same [] = sym (ap (λ b. cond b (Some y) (stretch_at cmp t p)) h)
            same (e ∷ s) = ap (λ z. cond (lies cmp e.0 e.1.end p) (Some e) z) (same s)

    pub taken_at : (s : List (K × Stretch K V)) (at : K) (e : K × Stretch K V) → AreApart cmp s → stretch_at cmp s at ≡ Some e
        → IsTaken cmp at e s (cut cmp s e.0)
    taken_at s at e a there =
        let f = found_between _ s e there in
        let apart = subst (AreApart cmp) f.is a in
        let left = cut_between cmp s f.lead f.rest e.0 e.1 o (apart_ascend cmp o s a) f.is in
        record {
          covered = there;
          is = refl;
          points = λ p. ap (λ l. value_at_point cmp l p) left ∙ ap (option_map (λ x. x.1.value)) (points_without f.lead f.rest e p apart)
              ∙ out (lies cmp e.0 e.1.end p) (stretch_at cmp (f.lead ++ e ∷ f.rest) p)
              ∙ ap (λ l. cond (lies cmp e.0 e.1.end p) None (value_at_point cmp l p)) (sym f.is);
        }
      where
        out : (b : Bool) (x : Option (K × Stretch K V)) → option_map (λ x. x.1.value) (cond b None x) ≡ cond b None (option_map (λ x. x.1.value) x)
        out true x = refl
        out false x = refl

    pub apart_taken : (s : List (K × Stretch K V)) (at : K) (e : K × Stretch K V) → AreApart cmp s → stretch_at cmp s at ≡ Some e → AreApart cmp (cut cmp s e.0)
    apart_taken s at e a there =
        let f = found_between _ s e there in
        subst (AreApart cmp) (sym (cut_between cmp s f.lead f.rest e.0 e.1 o (apart_ascend cmp o s a) f.is))
        (apart_without f.lead f.rest e (subst (AreApart cmp) f.is a))

    pub stands_there : (s : List (K × Stretch K V)) (p : K) (e : K × Stretch K V) → AreApart cmp s → stretch_at cmp s p ≡ Some e → at cmp s e.0 ≡ Some e
    stands_there s p e a there =
        let f = found_between _ s e there in
        at_between cmp s f.lead f.rest e.0 e.1 o (apart_ascend cmp o s a) f.is
