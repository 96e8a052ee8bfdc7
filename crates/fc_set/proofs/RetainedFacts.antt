-- What stays of the items of a set, by what stays of the pairs of its map.
use Rattle.std.proofs.Common.{◌≡◌, List, [], ◌∷◌, map, refl, ap, ◌∙◌, cond}
use Rattle.std.specs.Prelude.{Bool, true, false}
use Rattle.std.specs.Borrow.{Bor}
use Rattle.std.specs.Fn.{Mut, CalledAt}
use Rattle.fc_tree_retain.specs.Retained.{RetainsInTurn, AskedAtKey, GivenKey, ExtractsBy}
use Rattle.fc_set.specs.Retained.{RetainsItems, GivenItem, ExtractsItem}

module _ {F T V : Type 0} (R : F → T × V → F → V → Bool → Type 0) (Q : F → T → Bool → F → Type 0)
    (step : (s t : F) (e : T × V) (w : V) (b : Bool) → R s e t w b → Q s e.0 b t) where
  cond_keys : (b : Bool) (x : T × V) (zs : List (T × V)) → map (λ e. e.0) (cond b (x ∷ zs) zs) ≡ cond b (x.0 ∷ map (λ e. e.0) zs) (map (λ e. e.0) zs)
  cond_keys true x zs = refl
  cond_keys false x zs = refl

  keys_retained : (xs ys : List (T × V)) (s t : F) → RetainsInTurn R s xs t ys → RetainsItems Q s (map (λ e. e.0) xs) t (map (λ e. e.0) ys)
  keys_retained [] ys s t r = (r.0, ap (map (λ e. e.0)) r.1)
  keys_retained (e ∷ es) ys s t (u, w, b, zs, r, rs, q) = (
    u,
    b,
    map (λ d. d.0) zs,
    step s u e w b r,
    keys_retained es zs u t rs,
    ap (map (λ d. d.0)) q
        ∙ cond_keys b (e.0, w) zs,
  )

pub items_retained : {F T V : Type 0} (g : Mut F (Bor T × Unit {0}) Bool) (xs ys : List (T × V)) (s t : F) → RetainsInTurn (AskedAtKey g) s xs t ys
    → RetainsItems (CalledAt g) s (map (λ e. e.0) xs) t (map (λ e. e.0) ys)
items_retained g = keys_retained (AskedAtKey g) (CalledAt g) (λ s t e w b a. a.0)

pub items_extracted : {F E T V : Type 0} (f : Mut F (Bor T × Unit {0}) Bool) (g : Mut E (T × Unit {0}) (Unit {0})) (xs ys : List (T × V)) (s t : F × E)
    → RetainsInTurn (ExtractsBy (AskedAtKey f) (GivenKey g)) s xs t ys
    → RetainsItems (ExtractsItem (CalledAt f) (GivenItem g)) s (map (λ e. e.0) xs) t (map (λ e. e.0) ys)
items_extracted f g = keys_retained (ExtractsBy (AskedAtKey f) (GivenKey g)) (ExtractsItem (CalledAt f) (GivenItem g)) (λ s t e w b a. (a.0, a.1.0, a.2, a.3))
