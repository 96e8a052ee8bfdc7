-- The laws of lists of which some pairs stay: where the closure's answer and what it writes hang on the pair alone, the list is a filter.
-- A closure may hang on what it captured too: what holds of it before each call and after it says so.
use Rattle.std.proofs.Common.{◌≡◌, List, [], ◌∷◌, map, refl, sym, ap, ◌∙◌, cond}
use Rattle.std.specs.Prelude.{Bool, true, false}
use Rattle.std.specs.List.{filter}
use Rattle.fc_tree_retain.specs.Retained.{RetainsInTurn}

module _ {F K V : Type 0} (R : F → K × V → F → V → Bool → Type 0) (holds : F → Type 0) (stays : K × V → Bool) where
  -- those pairs of which the closure says so, where it leaves the values as they are
  pub staying_are : ((f g : F) (e : K × V) (w : V) (b : Bool) → holds f → R f e g w b → holds g × (w ≡ e.1) × (b ≡ stays e))
      → (xs ys : List (K × V)) (f g : F) → holds f → RetainsInTurn R f xs g ys → ys ≡ filter stays xs
  staying_are says [] ys f g held r = r.1
  staying_are says (e ∷ es) ys f g held (h, w, b, zs, r, rs, q) =
      let a = says f h e w b held r in
      q ∙ ap (λ c. cond c ((e.0, w) ∷ zs) zs) a.2 ∙ ap (λ v. cond (stays e) ((e.0, v) ∷ zs) zs) a.1
      ∙ ap (λ s. cond (stays e) (e ∷ s) s) (staying_are says es zs h g a.0 rs)

module _ {F K V : Type 0} (R : F → K × V → F → V → Bool → Type 0) (holds : F → Type 0) (stays : K × V → Bool) (writes : K × V → V) where
  abbrev written : K × V → K × V
  written e = (e.0, writes e)

  map_cond : (b : Bool) (e : K × V) (es : List (K × V)) → map written (cond b (e ∷ es) es) ≡ cond b (written e ∷ map written es) (map written es)
  map_cond true e es = refl
  map_cond false e es = refl

  -- those pairs of which the closure says so, each with what it writes
  pub retained_is : ((f g : F) (e : K × V) (w : V) (b : Bool) → holds f → R f e g w b → holds g × (w ≡ writes e) × (b ≡ stays e))
      → (xs ys : List (K × V)) (f g : F) → holds f → RetainsInTurn R f xs g ys → ys ≡ map (λ e. (e.0, writes e)) (filter stays xs)
  retained_is says [] ys f g held r = r.1
  retained_is says (e ∷ es) ys f g held (h, w, b, zs, r, rs, q) =
      let a = says f h e w b held r in
      q ∙ ap (λ c. cond c ((e.0, w) ∷ zs) zs) a.2 ∙ ap (λ x. cond (stays e) ((e.0, x) ∷ zs) zs) a.1
      ∙ ap (λ s. cond (stays e) (written e ∷ s) s) (retained_is says es zs h g a.0 rs) ∙ sym (map_cond (stays e) e (filter stays es))
