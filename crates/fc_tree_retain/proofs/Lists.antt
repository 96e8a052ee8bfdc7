-- A list of two parts.
use Rattle.std.proofs.Common.{◌≡◌, ℕ, ◌≤◌, List, [], ◌∷◌, ◌++◌, length, get_or, take, drop, refl, sym, ap, subst, ◌∙◌, arith}
use Rattle.std.proofs.Math.Seq.{get_or-append_seam, take-append_seam, drop-append_seam}
use Rattle.std.specs.Prelude.{slice_set}
use Rattle.std.specs.List.{remove}

module _ {X : Type 0} where
  pub remove_at : (xs : List X) (x : X) (ys : List X) → remove (xs ++ x ∷ ys) (length xs) ≡ xs ++ ys
  remove_at [] x ys = refl
  remove_at (z ∷ xs) x ys = ap (λ zs. z ∷ zs) (remove_at xs x ys)

  -- the same, with the number of items before it
  pub at_place : (xs ys : List X) (x d : X) (i : ℕ) → length xs ≡ i → get_or (xs ++ x ∷ ys) i d ≡ x
  at_place xs ys x d i e = subst (λ j. get_or (xs ++ x ∷ ys) j d ≡ x) e (get_or-append_seam xs x ys d)

  pub take_place : (xs ys : List X) (i : ℕ) → length xs ≡ i → take i (xs ++ ys) ≡ xs
  take_place xs ys i e = subst (λ j. take j (xs ++ ys) ≡ xs) e (take-append_seam xs ys)

  pub drop_place : (xs ys : List X) (i : ℕ) → length xs ≡ i → drop i (xs ++ ys) ≡ ys
  drop_place xs ys i e = subst (λ j. drop j (xs ++ ys) ≡ ys) e (drop-append_seam xs ys)

  pub set_place : (xs ys : List X) (x y : X) (i : ℕ) → length xs ≡ i → slice_set (xs ++ x ∷ ys) i y ≡ xs ++ y ∷ ys
  set_place xs ys x y i e = subst (λ j. slice_set (xs ++ x ∷ ys) j y ≡ xs ++ y ∷ ys) e (go xs)
    where
      go : (xs : List X) → slice_set (xs ++ x ∷ ys) (length xs) y ≡ xs ++ y ∷ ys
      go [] = refl
      go (z ∷ xs) = ap (λ zs. z ∷ zs) (go xs)

  pub remove_place : (xs ys : List X) (x : X) (i : ℕ) → length xs ≡ i → remove (xs ++ x ∷ ys) i ≡ xs ++ ys
  remove_place xs ys x i e = subst (λ j. remove (xs ++ x ∷ ys) j ≡ xs ++ ys) e (remove_at xs x ys)

  -- the longer of two first parts of one list begins with the other
  pub record IsLonger (xs ys bs zs : List X) : Type 0 where
    pub more : List X
    pub first : xs ≡ bs ++ more
    pub rest : zs ≡ more ++ ys

  pub longer : (xs ys bs zs : List X) → xs ++ ys ≡ bs ++ zs → length bs ≤ length xs → IsLonger xs ys bs zs
  longer xs ys [] zs e h = record { more = xs; first = refl; rest = sym e }
  longer [] ys (a ∷ bs) zs e h = absurd (omega arith)
  longer (x ∷ xs) ys (a ∷ bs) zs e h =
      let p : x ≡ a = cc in
      let q : xs ++ ys ≡ bs ++ zs = cc in
      let r = longer xs ys bs zs q (omega arith) in
      record { more = r.more; first = ap (λ y. y ∷ xs) p ∙ ap (λ ws. a ∷ ws) r.first; rest = r.rest }
