-- What stays of a list: its order, how long it is, and what the closures that were asked did.
use Rattle.std.proofs.Common.{◌≡◌, ◌≤◌, List, [], ◌∷◌, length, sym, ap, subst, ◌∙◌, cond, arith}
use Rattle.std.specs.Prelude.{Bool, true, false, not}
use Rattle.std.specs.Bool.{MatchBool}
use Rattle.std.specs.List.{AllByRecursion}
use Rattle.std.specs.declared.cmp.Ordering.{Ordering}
use Rattle.std.specs.declared.cmp.Ordering.TheVariants.{Less}
use Rattle.fc_base.specs.Ascending.{IsAscending}
use Rattle.fc_tree_retain.specs.Retained.{RetainsInTurn, ExtractsBy}
use Rattle.fc_tree_retain.specs.Filtered.{FiltersPair}
use Rattle.fc_tree_retain.proofs.Turns.{retains_as}

module _ {F K V : Type 0} (R : F → K × V → F → V → Bool → Type 0) where
  cond_all : (P : K → Type 0) (b : Bool) (x : K × V) (zs : List (K × V)) → P x.0 → AllByRecursion (λ e. P e.0) zs
      → AllByRecursion (λ e. P e.0) (cond b (x ∷ zs) zs)
  cond_all P true x zs p a = (p, a)
  cond_all P false x zs p a = a

  all_kept : (P : K → Type 0) (xs ys : List (K × V)) (s t : F) → RetainsInTurn R s xs t ys → AllByRecursion (λ e. P e.0) xs → AllByRecursion (λ e. P e.0) ys
  all_kept P [] ys s t r a = subst (AllByRecursion (λ e. P e.0)) (sym r.1) tt
  all_kept P (e ∷ es) ys s t (u, w, b, zs, r, rs, q) a = subst (AllByRecursion (λ e. P e.0)) (sym q)
      (cond_all P b (e.0, w) zs a.0 (all_kept P es zs u t rs a.1))

  cond_ascending : (cmp : K → K → Ordering) (b : Bool) (x : K × V) (zs : List (K × V)) → AllByRecursion (λ d. cmp x.0 d.0 ≡ Less) zs → IsAscending cmp zs
      → IsAscending cmp (cond b (x ∷ zs) zs)
  cond_ascending cmp true x zs a r = (a, r)
  cond_ascending cmp false x zs a r = r

  pub kept_ascending : (cmp : K → K → Ordering) (xs ys : List (K × V)) (s t : F) → RetainsInTurn R s xs t ys → IsAscending cmp xs → IsAscending cmp ys
  kept_ascending cmp [] ys s t r a = subst (IsAscending cmp) (sym r.1) tt
  kept_ascending cmp (e ∷ es) ys s t (u, w, b, zs, r, rs, q) a = subst (IsAscending cmp) (sym q)
      (cond_ascending cmp b (e.0, w) zs (all_kept (λ k. cmp e.0 k ≡ Less) es zs u t rs a.0) (kept_ascending cmp es zs u t rs a.1))

  pub kept_length : (xs ys : List (K × V)) (s t : F) → RetainsInTurn R s xs t ys → length ys ≤ length xs
  kept_length [] ys s t r = let e = ap length r.1 in omega arith
  kept_length (e ∷ es) ys s t (u, w, b, zs, r, rs, q) = go b (ap length q) (kept_length es zs u t rs)
    where
      go : (b : Bool) → length ys ≡ length (cond b ((e.0, w) ∷ zs) zs) → length zs ≤ length es → length ys ≤ length (e ∷ es)
      go true l i = omega arith
      go false l i = omega arith

module _ {S K V : Type 0} (asked : S → K × V → S → V → Bool → Type 0) (given : S → K × V → S → Type 0) where
  -- where what does not stay is dropped
  pub as_retained : {F : Type 0} (Q : F → K × V → F → V → Bool → Type 0) (v : S → F)
      → ((s t : S) (e : K × V) (w : V) (b : Bool) → asked s e t w b → Q (v s) e (v t) w b) → ((s t : S) (e : K × V) → given s e t → v t ≡ v s)
      → (xs ys : List (K × V)) (s t : S) → RetainsInTurn (FiltersPair asked given) s xs t ys → RetainsInTurn Q (v s) xs (v t) ys
  as_retained {F} Q v ask give = retains_as (FiltersPair asked given) Q v step
    where
      kept : (s u t : S) (e : K × V) (w : V) (b : Bool) → MatchBool b (t ≡ u) (given u (e.0, w) t) → v u ≡ v t
      kept s u t e w true m = sym (ap v m)
      kept s u t e w false m = sym (give u t (e.0, w) m)

      step : (s t : S) (e : K × V) (w : V) (b : Bool) → FiltersPair asked given s e t w b → Q (v s) e (v t) w b
      step s t e w b (u, a, m) = subst (λ x. Q (v s) e x w b) (kept s u t e w b m) (ask s u e w b a)

  -- where it is given to a second closure
  pub as_extracted : {F E : Type 0} (Q : F → K × V → F → V → Bool → Type 0) (G : E → K × V → E → Type 0) (p : S → F) (q : S → E)
      → ((s t : S) (e : K × V) (w : V) (b : Bool) → asked s e t w b → (picked : Bool) × Q (p s) e (p t) w picked × (b ≡ not picked) × (q t ≡ q s))
      → ((s t : S) (e : K × V) → given s e t → G (q s) e (q t) × (p t ≡ p s))
      → (xs ys : List (K × V)) (s t : S) → RetainsInTurn (FiltersPair asked given) s xs t ys → RetainsInTurn (ExtractsBy Q G) (p s, q s) xs (p t, q t) ys
  as_extracted Q G p q ask give = retains_as (FiltersPair asked given) (ExtractsBy Q G) (λ s. (p s, q s)) step
    where
      step : (s t : S) (e : K × V) (w : V) (b : Bool) → FiltersPair asked given s e t w b → ExtractsBy Q G (p s, q s) e (p t, q t) w b
      step s t e w true (u, a, m) = let x = ask s u e w true a in (x.0, subst (λ y. Q (p s) e y w x.0) (sym (ap p m)) x.1, x.2, ap q m ∙ x.3)
      step s t e w false (u, a, m) =
          let x = ask s u e w false a in
          let y = give u t (e.0, w) m in
          (x.0, subst (λ z. Q (p s) e z w x.0) (sym y.1) x.1, x.2, subst (λ z. G z (e.0, w) (q t)) x.3 y.0)
