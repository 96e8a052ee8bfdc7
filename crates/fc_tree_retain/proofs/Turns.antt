-- Pairs asked in turn, one after another.
use Rattle.std.proofs.Common.{◌≡◌, List, [], ◌∷◌, ◌++◌, refl, sym, ap, subst, ◌∙◌, cond}
use Rattle.std.specs.Prelude.{Bool, true, false}
use Rattle.fc_tree_retain.specs.Retained.{RetainsInTurn}

module _ {F K V : Type 0} (R : F → K × V → F → V → Bool → Type 0) where
  cond_append : (b : Bool) (x : K × V) (zs ws : List (K × V)) → cond b (x ∷ zs) zs ++ ws ≡ cond b (x ∷ (zs ++ ws)) (zs ++ ws)
  cond_append true x zs ws = refl
  cond_append false x zs ws = refl

  pub retains_join : (xs ys zs ws : List (K × V)) (f g h : F) → RetainsInTurn R f xs g zs → RetainsInTurn R g ys h ws
      → RetainsInTurn R f (xs ++ ys) h (zs ++ ws)
  retains_join [] ys zs ws f g h v w = subst (λ s. RetainsInTurn R f ys h (s ++ ws)) (sym v.1) (subst (λ x. RetainsInTurn R x ys h ws) v.0 w)
  retains_join (e ∷ es) ys zs ws f g h (k, w, b, us, r, v, q) u = (
    k,
    w,
    b,
    us ++ ws,
    r,
    retains_join es ys us ws k g h v u,
    ap (λ s. s ++ ws) q
        ∙ cond_append b (e.0, w) us ws,
  )

  pub retains_none : (f : F) → RetainsInTurn R f [] f []
  retains_none f = (refl, refl)

  pub retains_one : (e : K × V) (f g : F) (w : V) (b : Bool) → R f e g w b → RetainsInTurn R f (e ∷ []) g (cond b ((e.0, w) ∷ []) [])
  retains_one e f g w b r = (g, w, b, [], r, (refl, refl), refl)

-- the same by what the states are in another way
pub retains_as : {F G K V : Type 0} (R : F → K × V → F → V → Bool → Type 0) (Q : G → K × V → G → V → Bool → Type 0) (v : F → G)
    → ((s t : F) (e : K × V) (w : V) (b : Bool) → R s e t w b → Q (v s) e (v t) w b)
    → (xs ys : List (K × V)) (s t : F) → RetainsInTurn R s xs t ys → RetainsInTurn Q (v s) xs (v t) ys
retains_as R Q v f [] ys s t r = (ap v r.0, r.1)
retains_as R Q v f (e ∷ es) ys s t (u, w, b, zs, r, rs, q) = (v u, w, b, zs, f s u e w b r, retains_as R Q v f es zs u t rs, q)
