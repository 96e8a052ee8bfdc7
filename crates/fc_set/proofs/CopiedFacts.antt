-- Copies of the items that a walk gives, made one after another.
use Rattle.std.proofs.Common.{◌≡◌, ℕ, ◌+◌, ◌<◌, List, [], ◌∷◌, ◌++◌, map, length, Option, Some, None, Any, refl, sym, ap, ◌∙◌, subst, arith, append_assoc}
use Rattle.std.proofs.Common.{append-nil}
use Rattle.std.specs.Iterator.{AlwaysYields, YieldsFirstRef}
use Rattle.std.specs.List.{AllZip, AllByRecursion}
use Rattle.std.specs.Cmp.{IsTotalOrder}
use Rattle.std.specs.declared.cmp.Ordering.{Ordering}
use Rattle.std.specs.declared.cmp.Ordering.TheVariants.{Less, Equal}
use Rattle.std.proofs.lemmas.List.{map-append}
use Rattle.std.proofs.lemmas.List.Elements.{AllZip-push}
use denote.Ref.{Bor}
use Rattle.fc_base.specs.Ascending.{IsAscending}
use Rattle.fc_base.specs.Viewed.{over_one}
use Rattle.fc_base.proofs.AscendingFacts.{under_one}
use Rattle.fc_set.specs.Items.{AreAscending}
use Rattle.fc_set.proofs.ItemFacts.{any_later}

module _ {S A B : Type 0} (steps : S → Option A → S → Type 0) (v : A → B) where
  -- An item that a walk gives is the first of those that it had left.
  some_left : (s j : S) (x : A) (left : List B) → AlwaysYields steps v s left → steps s (Some x) j
      → (rest : List B) × (left ≡ v x ∷ rest) × AlwaysYields steps v j rest
  some_left s j x [] a h = absurd (a x j h)
  some_left s j x (y ∷ left) a h = (left, ap (λ z. z ∷ left) (sym (a.1 x j h).0), (a.1 x j h).1)

  none_left : (s j : S) (left : List B) → AlwaysYields steps v s left → steps s None j → left ≡ []
  none_left s j [] a h = refl
  none_left s j (y ∷ left) a h = absurd (a.0 j h)

module _ {S T : Type 0} (rest : S → List T) where
  abbrev first : T → List T → T
  first d [] = d
  first d (x ∷ s) = x

  abbrev others : List T → List T
  others [] = []
  others (x ∷ s) = s

  lends : (left : List T) (s : S) → rest s ≡ left → AlwaysYields (YieldsFirstRef rest) (λ x. x.now) s left
  lends [] s e = λ x j h. let c : ◌≡◌ {A = List T} [] (x.now ∷ rest j) = sym e ∙ h in absurd cc
  lends (y ∷ left) s e = (
    (λ j h. let c : ◌≡◌ {A = List T} (y ∷ left) [] = sym e ∙ h.0 in absurd cc),
    λ x j h. (sym (ap (first y) (sym e ∙ h)), lends left j (sym (ap others (sym e ∙ h)))),
  )

  -- A walk that gives the first of a list gives all of the list.
  pub lends_rest : (s : S) → AlwaysYields (YieldsFirstRef rest) (λ x. x.now) s (rest s)
  lends_rest s = lends (rest s) s refl

module _ {S T : Type 0} (steps : S → Option (Bor T) → S → Type 0) (all : List T) where
  -- So many of the items were given, and the walk has the others left.
  pub record IsCounted (count : ℕ) (walk : S) : Type 0 where
    pub left : List T
    pub gives : AlwaysYields steps (λ x. x.now) walk left
    pub counted : count + length left ≡ length all

  pub counted_start : (s : S) → AlwaysYields steps (λ x. x.now) s all → IsCounted 0 s
  counted_start s a = record { left = all; gives = a; counted = omega arith }

  pub counted_more : (n : ℕ) (s j : S) (x : Bor T) → IsCounted n s → steps s (Some x) j → IsCounted (n + 1) j × (n < length all)
  counted_more n s j x k h =
      let l = some_left steps (λ x. x.now) s j x k.left k.gives h in
      let long = ap length l.1 in
      let counted = k.counted in
      (record { left = l.0; gives = l.2; counted = omega (arith, counted, long) }, omega (arith, counted, long))

  pub counted_all : (n : ℕ) (s j : S) → IsCounted n s → steps s None j → n ≡ length all
  counted_all n s j k h =
      let none = ap length (none_left steps (λ x. x.now) s j k.left k.gives h) in
      let counted = k.counted in
      omega (arith, counted, none)

  -- Copies of a front of the items were made.
  pub record IsCopiedSoFar {V : Type 0} (same : T → T → Type 0) (made : List (T × V)) (walk : S) : Type 0 where
    pub done : List T
    pub left : List T
    pub gives : AlwaysYields steps (λ x. x.now) walk left
    pub parted : all ≡ done ++ left
    pub copied : AllZip same done (map (λ e. e.0) made)

  module _ {V : Type 0} (same : T → T → Type 0) where
    pub filled_start : (made : List (T × V)) (s : S) → AlwaysYields steps (λ x. x.now) s all → made ≡ [] → IsCopiedSoFar same made s
    filled_start made s a none = record {
      done = [];
      left = all;
      gives = a;
      parted = refl;
      copied = rw none tt;
    }

    pub filled_more : (made more : List (T × V)) (s j : S) (x : Bor T) (y : T) (w : V) → IsCopiedSoFar same made s → steps s (Some x) j → same x.now y
        → more ≡ made ++ (y, w) ∷ [] → IsCopiedSoFar same more j
    filled_more made more s j x y w f h e pairs =
        let l = some_left steps (λ x. x.now) s j x f.left f.gives h in
        let put = ap (map (λ e. e.0)) pairs ∙ map-append (λ e. e.0) made ((y, w) ∷ []) in
        record {
          done = f.done ++ x.now ∷ [];
          left = l.0;
          gives = l.2;
          parted = f.parted ∙ ap (λ r. f.done ++ r) l.1 ∙ sym (append_assoc f.done (x.now ∷ []) l.0);
          copied = subst (AllZip same (f.done ++ x.now ∷ [])) (sym put) (AllZip-push same f.done (map (λ e. e.0) made) x.now y f.copied e);
        }

    pub filled_all : (made : List (T × V)) (s j : S) → IsCopiedSoFar same made s → steps s None j → AllZip same all (map (λ e. e.0) made)
    filled_all made s j f h =
        let none = none_left steps (λ x. x.now) s j f.left f.gives h in
        let whole = f.parted ∙ ap (λ r. f.done ++ r) none ∙ append-nil f.done in
        subst (λ l. AllZip same l (map (λ e. e.0) made)) (sym whole) f.copied

    -- What holds of the item that comes holds of one of all items.
    pub any_next : (P : T → Type 0) (made : List (T × V)) (s j : S) (x : Bor T) → IsCopiedSoFar same made s → steps s (Some x) j → P x.now → Any P all
    any_next P made s j x f h p =
        let l = some_left steps (λ x. x.now) s j x f.left f.gives h in
        subst (Any P) (sym (f.parted ∙ ap (λ r. f.done ++ r) l.1)) (any_after P f.done x.now l.0 p)
      where
        any_after : (P : T → Type 0) (done : List T) (x : T) (rest : List T) → P x → Any P (done ++ x ∷ rest)
        any_after P [] x rest p = (0, x, omega arith, refl, p)
        any_after P (y ∷ done) x rest p = any_later P y (done ++ x ∷ rest) (any_after P done x rest p)

    -- Where an item comes, there is one.
    pub some_there : (made : List (T × V)) (s j : S) (x : Bor T) → IsCopiedSoFar same made s → steps s (Some x) j → 0 < length all
    some_there made s j x f h = let there = (any_next (λ y. Unit {0}) made s j x f h tt).2 in omega arith

module _ {T : Type 0} (cmp : T → T → Ordering) (total : IsTotalOrder cmp) (same : T → T → Type 0) (equal : (a b : T) → same a b → cmp a b ≡ Equal) where
  -- An item stands to a later one as their copies stand.
  still_less : (a b x y : T) → same a b → same x y → cmp a x ≡ Less → cmp b y ≡ Less
  still_less a b x y s t less = sym (total.congr a b y (equal a b s)) ∙ under_one cmp total a y
      (sym (total.congr x y a (equal x y t)) ∙ over_one cmp total a x less)

  module _ {V : Type 0} where
    later_copies : (a b : T) → same a b → (s : List T) (t : List (T × V)) → AllZip same s (map (λ e. e.0) t) → AllByRecursion (λ later. cmp a later ≡ Less) s
        → AllByRecursion (λ later. cmp b later.0 ≡ Less) t
    later_copies a b e [] [] z l = tt
    later_copies a b e [] (q ∷ t) z l = absurd z
    later_copies a b e (x ∷ s) [] z l = absurd z
    later_copies a b e (x ∷ s) (q ∷ t) z l = (still_less a b x q.0 e z.0 l.0, later_copies a b e s t z.1 l.1)

    -- Copies of ascending items ascend, where each is equal to its item.
    pub ascending_copies : (s : List T) (t : List (T × V)) → AllZip same s (map (λ e. e.0) t) → AreAscending cmp s → IsAscending cmp t
    ascending_copies [] [] z a = tt
    ascending_copies [] (q ∷ t) z a = absurd z
    ascending_copies (x ∷ s) [] z a = absurd z
    ascending_copies (x ∷ s) (q ∷ t) z a = (later_copies x q.0 z.0 s t z.1 a.0, ascending_copies s t z.1 a.1)
