-- An ascending list around the part that lies within two bounds.
use Rattle.std.proofs.Common.{◌≡◌, List, [], ◌∷◌, ◌++◌, refl, sym, ap, ◌∙◌, cond}
use Rattle.std.specs.Prelude.{Bool, true, false, not, ◌&&◌}
use Rattle.std.specs.List.{filter}
use Rattle.std.specs.Ordering.{is_lt, is_le, is_gt, is_ge}
use Rattle.std.specs.declared.cmp.Ordering.{Ordering}
use Rattle.std.specs.declared.cmp.Ordering.TheVariants.{Less, Equal, Greater}
use Rattle.std.specs.declared.ops.Bound.{Bound}
use Rattle.std.specs.declared.ops.Bound.TheVariants.{Included, Excluded, Unbounded}
use Rattle.fc_base.specs.Ascending.{IsAscending}
use Rattle.fc_base.specs.Query.{IsQueryOrder}
use Rattle.fc_base.specs.Ranges.{starts, stops, within}
use Rattle.fc_base.proofs.AscendingFacts.{all_map, left_out}
use Rattle.fc_map.specs.Ranged.{before_range, after_range, outside}

module _ {K V : Type 0} (cmp : K → K → Ordering) (p u : K × V → Bool) (up : (x y : K × V) → cmp x.0 y.0 ≡ Less → p x ≡ true → p y ≡ true)
    (down : (x y : K × V) → cmp x.0 y.0 ≡ Less → u x ≡ false → u y ≡ false) where
  -- those where the first test fails come first, those where the second fails last
  three_parts : (s : List (K × V)) → IsAscending cmp s
      → s ≡ filter (λ e. not (p e)) s ++ (filter (λ e. p e && u e) s ++ filter (λ e. p e && not (u e)) s)
  three_parts [] a = refl
  three_parts (x ∷ s) a = go (p x) (u x) refl refl (three_parts s a.1)
    where
      N : List (K × V)
      N = filter (λ e. not (p e)) s

      W : List (K × V)
      W = filter (λ e. p e && u e) s

      B : List (K × V)
      B = filter (λ e. p e && not (u e)) s

      none : p x ≡ true → N ≡ []
      none e = left_out (λ y. not (p y)) s (all_map (λ y. cmp x.0 y.0 ≡ Less) _ (λ y l. ap not (up x y l e)) s a.0)

      over : p x ≡ true → u x ≡ false → W ≡ []
      over e f = left_out (λ y. p y && u y) s
          (all_map (λ y. cmp x.0 y.0 ≡ Less) _ (λ y l. ap (λ b. b && u y) (up x y l e) ∙ down x y l f) s a.0)

      go : (b c : Bool) → p x ≡ b → u x ≡ c → s ≡ N ++ (W ++ B)
          → x ∷ s ≡ cond (not b) (x ∷ N) N ++ (cond (b && c) (x ∷ W) W ++ cond (b && not c) (x ∷ B) B)
      go false c e f i = ap (λ zs. x ∷ zs) i
      go true true e f i =
          let n = none e in ap (λ zs. x ∷ zs) i ∙ ap (λ zs. x ∷ (zs ++ (W ++ B))) n ∙ ap (λ zs. zs ++ x ∷ (W ++ B)) (sym n)
      go true false e f i =
          let n = none e in
          let w = over e f in
          ap (λ zs. x ∷ zs) i ∙ ap (λ zs. x ∷ (zs ++ (W ++ B))) n ∙ ap (λ zs. x ∷ (zs ++ B)) w ∙ ap (λ zs. zs ++ x ∷ B) (sym w)
          ∙ ap (λ zs. zs ++ (W ++ x ∷ B)) (sym n)

  -- the first and the last are those where one of them fails
  two_parts : (s : List (K × V)) → IsAscending cmp s
      → filter (λ e. not (p e)) s ++ filter (λ e. p e && not (u e)) s ≡ filter (λ e. not (p e && u e)) s
  two_parts [] a = refl
  two_parts (x ∷ s) a = go (p x) (u x) refl (two_parts s a.1)
    where
      N : List (K × V)
      N = filter (λ e. not (p e)) s

      B : List (K × V)
      B = filter (λ e. p e && not (u e)) s

      O : List (K × V)
      O = filter (λ e. not (p e && u e)) s

      none : p x ≡ true → N ≡ []
      none e = left_out (λ y. not (p y)) s (all_map (λ y. cmp x.0 y.0 ≡ Less) _ (λ y l. ap not (up x y l e)) s a.0)

      go : (b c : Bool) → p x ≡ b → N ++ B ≡ O → cond (not b) (x ∷ N) N ++ cond (b && not c) (x ∷ B) B ≡ cond (not (b && c)) (x ∷ O) O
      go false c e i = ap (λ zs. x ∷ zs) i
      go true true e i = i
      go true false e i = let n = none e in ap (λ zs. zs ++ x ∷ B) n ∙ ap (λ zs. x ∷ (zs ++ B)) (sym n) ∙ ap (λ zs. x ∷ zs) i

module _ {K Q : Type 0} {cmp : K → K → Ordering} {order : K → Q → Ordering} (fits : IsQueryOrder cmp order) where
  starts_up : (lo : Bound Q) (x y : K) → cmp x y ≡ Less → starts order lo x ≡ true → starts order lo y ≡ true
  starts_up (Included q) x y l e = go (order x q) refl e
    where
      go : (r : Ordering) → order x q ≡ r → is_ge r ≡ true → is_ge (order y q) ≡ true
      go Less h e = absurd cc
      go Equal h e = ap is_ge (fits.after q x y l h)
      go Greater h e = ap is_ge (fits.upper q x y l h)
  starts_up (Excluded q) x y l e = go (order x q) refl e
    where
      go : (r : Ordering) → order x q ≡ r → is_gt r ≡ true → is_gt (order y q) ≡ true
      go Less h e = absurd cc
      go Equal h e = absurd cc
      go Greater h e = ap is_gt (fits.upper q x y l h)
  starts_up Unbounded x y l e = refl

  stops_down : (hi : Bound Q) (x y : K) → cmp x y ≡ Less → stops order hi x ≡ false → stops order hi y ≡ false
  stops_down (Included q) x y l e = go (order x q) refl e
    where
      go : (r : Ordering) → order x q ≡ r → is_le r ≡ false → is_le (order y q) ≡ false
      go Less h e = absurd cc
      go Equal h e = absurd cc
      go Greater h e = ap is_le (fits.upper q x y l h)
  stops_down (Excluded q) x y l e = go (order x q) refl e
    where
      go : (r : Ordering) → order x q ≡ r → is_lt r ≡ false → is_lt (order y q) ≡ false
      go Less h e = absurd cc
      go Equal h e = ap is_lt (fits.after q x y l h)
      go Greater h e = ap is_lt (fits.upper q x y l h)
  stops_down Unbounded x y l e = absurd cc

  -- what is before a range, within it and after it
  pub range_parts : {V : Type 0} (lo hi : Bound Q) (s : List (K × V)) → IsAscending cmp s
      → s ≡ before_range order lo s ++ (within order lo hi s ++ after_range order lo hi s)
  range_parts lo hi s a =
      three_parts cmp (λ e. starts order lo e.0) (λ e. stops order hi e.0) (λ x y. starts_up lo x.0 y.0) (λ x y. stops_down hi x.0 y.0) s a

  -- those before it and after it are those outside
  pub range_outside : {V : Type 0} (lo hi : Bound Q) (s : List (K × V)) → IsAscending cmp s
      → before_range order lo s ++ after_range order lo hi s ≡ outside order lo hi s
  range_outside lo hi s a =
      two_parts cmp (λ e. starts order lo e.0) (λ e. stops order hi e.0) (λ x y. starts_up lo x.0 y.0) (λ x y. stops_down hi x.0 y.0) s a
