-- The law of lists of which some items stay: where the closure's answer hangs on the item alone, and on what holds of the closure, the list is a filter.
use Rattle.std.proofs.Common.{◌≡◌, List, [], ◌∷◌, ap, ◌∙◌, cond}
use Rattle.std.specs.Prelude.{Bool}
use Rattle.std.specs.List.{filter}
use Rattle.fc_set.specs.Retained.{RetainsItems}

module _ {F T : Type 0} (R : F → T → Bool → F → Type 0) (holds : F → Type 0) (stays : T → Bool) where
  -- those items of which the closure says so
  pub items_retained_are : ((f g : F) (x : T) (b : Bool) → holds f → R f x b g → holds g × (b ≡ stays x)) → (xs ys : List T) (f g : F) → holds f
      → RetainsItems R f xs g ys → ys ≡ filter stays xs
  items_retained_are says [] ys f g held r = r.1
  items_retained_are says (x ∷ xs) ys f g held (h, b, zs, r, rs, q) =
      let a = says f h x b held r in
      q ∙ ap (λ c. cond c (x ∷ zs) zs) a.1 ∙ ap (λ s. cond (stays x) (x ∷ s) s) (items_retained_are says xs zs h g a.0 rs)
