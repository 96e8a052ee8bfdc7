-- Rows of places whose items are taken from either end.
use Rattle.std.proofs.Common.{◌≡◌, ℕ, zero, suc, ◌+◌, ◌-◌, ◌<◌, ◌≤◌, List, [], ◌∷◌, ◌++◌, map, length, set, get_or, replicate, Option, Some, None, refl, sym}
use Rattle.std.proofs.Common.{ap, ◌∙◌, arith, length-append}
use Rattle.std.proofs.lemmas.List.{nil_from_length}
use Rattle.std.specs.Prelude.{true, false}
use Rattle.fc_tree_slots.specs.declared.rest.Rest.TheInside.{Inside}
use Rattle.fc_tree_slots.specs.Cells.{present, holds, row, IsPacked}
use Rattle.fc_tree_slots.specs.Rest.{IsPackedFrom}
use Rattle.fc_tree_slots.proofs.Rows.{get_next, set_next, present_row, row_cut, row_open, packs, unpacks, cut_at}
use Rattle.fc_tree_slots.proofs.Laid.{holds_at, value_at}

module _ {X : Type 0} where
  -- ---- the last item

  get_final : (k : ℕ) (ys : List X) (y : X) (m p : ℕ) → p ≡ k + length ys → get_or (row [] k (ys ++ y ∷ []) m) p None ≡ Some y
  get_final zero [] y m zero e = refl
  get_final zero [] y m (suc p) e = absurd (omega arith)
  get_final zero (x ∷ ys) y m zero e = absurd (omega arith)
  get_final zero (x ∷ ys) y m (suc p) e = get_final zero ys y m p (omega arith)
  get_final (suc k) ys y m zero e = absurd (omega arith)
  get_final (suc k) ys y m (suc p) e = get_final k ys y m p (omega arith)

  set_final : (k : ℕ) (ys : List X) (y : X) (m p : ℕ) → p ≡ k + length ys → set (row [] k (ys ++ y ∷ []) m) p None ≡ row [] k ys (suc m)
  set_final zero [] y m zero e = refl
  set_final zero [] y m (suc p) e = absurd (omega arith)
  set_final zero (x ∷ ys) y m zero e = absurd (omega arith)
  set_final zero (x ∷ ys) y m (suc p) e = ap (λ l. Some x ∷ l) (set_final zero ys y m p (omega arith))
  set_final (suc k) ys y m zero e = absurd (omega arith)
  set_final (suc k) ys y m (suc p) e = ap (λ l. None ∷ l) (set_final k ys y m p (omega arith))

  last_of : (xs : List X) → 0 < length xs → (front : List X) × (x : X) × (xs ≡ front ++ x ∷ [])
  last_of [] lt = absurd (omega arith)
  last_of (x ∷ []) lt = ([], x, refl)
  last_of (x ∷ y ∷ xs) lt = let on = last_of (y ∷ xs) (omega arith) in (x ∷ on.0, on.1, ap (λ l. x ∷ l) on.2)

  first_of : (xs : List X) → 0 < length xs → (x : X) × (rest : List X) × (xs ≡ x ∷ rest)
  first_of [] lt = absurd (omega arith)
  first_of (x ∷ xs) lt = (x, xs, refl)

  -- ---- what the invariant says

  pub record IsRest (cs : List (Option X)) (xs : List X) (a e n : ℕ) : Type 0 where
    pub is : cs ≡ row [] a xs (n - e)
    pub long : a + length xs ≡ e
    pub fits : e ≤ n

  after_gap : (cs : List (Option X)) (a k m : ℕ) → map holds cs ≡ replicate a false ++ (replicate k true ++ replicate m false)
      → (cs ≡ row [] a (present cs) m) × (length (present cs) ≡ k)
  after_gap cs zero k m e =
      let left : k + m - k ≡ m = omega arith in
      let p = unpacks cs k (k + m) (omega arith, e ∙ (λ i. replicate k true ++ replicate (sym left i) false)) in
      (p.0 ∙ (λ i. row (present cs) 0 [] (left i)) ∙ row_cut [] (present cs) m, p.1)
  after_gap [] (suc a) k m e = cc
  after_gap (None ∷ cs) (suc a) k m e =
      let rest : map holds cs ≡ replicate a false ++ (replicate k true ++ replicate m false) = cc in
      let on = after_gap cs a k m rest in (ap (λ l. None ∷ l) on.0, on.1)
  after_gap (Some x ∷ cs) (suc a) k m e = cc

  pub rest_of : {n : ℕ} {Z : Type 0} (u : Inside X n Z) (xs : List X) → IsPackedFrom u.cells u.start u.end n → present u.cells ≡ xs
      → IsRest u.cells xs u.start u.end n
  rest_of {n = n} u xs h e =
      let p = after_gap u.cells u.start (u.end - u.start) (n - u.end) h.2 in
      record { is = p.0 ∙ (λ i. row [] u.start (e i) (n - u.end)); long = omega (arith, ap length (sym e), p.1, h.0); fits = h.1 }

  holds_rest : (a : ℕ) (xs : List X) (m : ℕ) → map holds (row [] a xs m) ≡ replicate a false ++ (replicate (length xs) true ++ replicate m false)
  holds_rest zero [] zero = refl
  holds_rest zero [] (suc m) = ap (λ l. false ∷ l) (holds_rest zero [] m)
  holds_rest zero (x ∷ xs) m = ap (λ l. true ∷ l) (holds_rest zero xs m)
  holds_rest (suc a) xs m = ap (λ l. false ∷ l) (holds_rest a xs m)

  pub packs_rest : (cs : List (Option X)) (xs : List X) (m a e n : ℕ) → cs ≡ row [] a xs m → a + length xs ≡ e → n ≡ e + m
      → IsPackedFrom cs a e n × (present cs ≡ xs)
  packs_rest cs xs m a e n is long all =
      let left : m ≡ n - e = omega arith in let many : length xs ≡ e - a = omega arith in (
        (omega arith, omega arith, ap (map holds) is ∙ holds_rest a xs m ∙ (λ i. replicate a false ++ (replicate (many i) true ++ replicate (left i) false))),
        ap present is ∙ present_row [] a xs m,
      )

  -- ---- the calls

  pub held_at : (cs : List (Option X)) (xs : List X) (a m i p : ℕ) → cs ≡ row [] a xs m → (lt : i < length xs) → p ≡ a + i
      → get_or cs p None ≡ Some (cut_at xs i lt).0
  held_at cs xs a m i p is lt at = ap (λ l. get_or l p None) is ∙ after a p at
    where
      after : (a p : ℕ) → p ≡ a + i → get_or (row [] a xs m) p None ≡ Some (cut_at xs i lt).0
      after zero p at = let same : p ≡ i = omega arith in ap (λ j. get_or (row [] 0 xs m) j None) same
          ∙ holds_at xs m (row [] 0 xs m) i (sym (row_cut [] xs m)) lt
      after (suc a) zero at = absurd (omega arith)
      after (suc a) (suc p) at = after a p (omega arith)

  pub value_of : (cs : List (Option X)) (xs : List X) (a m i p : ℕ) (r : X) → cs ≡ row [] a xs m → i < length xs → p ≡ a + i → get_or cs p None ≡ Some r
      → r ≡ get_or xs i r
  value_of cs xs a m i p r is lt at got =
      let front = sym (row_cut [] xs m) in
      value_at xs m (row [] 0 xs m) i r front lt (holds_at xs m (row [] 0 xs m) i front lt ∙ sym (held_at cs xs a m i p is lt at) ∙ got)

  -- The first item is taken out, and the others are left.
  pub first_taken : (cs ds : List (Option X)) (xs : List X) (a m : ℕ) (item : X) → cs ≡ row [] a xs m → 0 < length xs → get_or cs a None ≡ Some item
      → ds ≡ set cs a None → (ys : List X) × (xs ≡ item ∷ ys) × (ds ≡ row [] (suc a) ys m)
  first_taken cs ds xs a m item is some got new =
      let f = first_of xs some in
      let opened : cs ≡ row [] a (f.0 ∷ f.1) m = is ∙ ap (λ l. row [] a l m) f.2 in
      let both : Some f.0 ≡ Some item = sym (get_next [] a f.0 f.1 m a (omega arith)) ∙ ap (λ l. get_or l a None) (sym opened) ∙ got in
      let same : f.0 ≡ item = cc in
      (f.1, f.2 ∙ ap (λ x. x ∷ f.1) same, new ∙ ap (λ l. set l a None) opened ∙ set_next [] a f.0 f.1 m a (omega arith))

  -- The last item is there, and taken out.
  pub last_held : (cs : List (Option X)) (xs : List X) (a m p : ℕ) → cs ≡ row [] a xs m → 0 < length xs → suc p ≡ a + length xs
      → (x : X) × (get_or cs p None ≡ Some x)
  last_held cs xs a m p is some at =
      let l = last_of xs some in
      let size = ap length l.2 ∙ length-append l.0 (l.1 ∷ []) in
      (l.1, ap (λ c. get_or c p None) (is ∙ ap (λ ys. row [] a ys m) l.2) ∙ get_final a l.0 l.1 m p (omega arith))

  pub last_taken : (cs ds : List (Option X)) (xs : List X) (a m p : ℕ) (item : X) → cs ≡ row [] a xs m → 0 < length xs → suc p ≡ a + length xs
      → get_or cs p None ≡ Some item → ds ≡ set cs p None → (ys : List X) × (xs ≡ ys ++ item ∷ []) × (ds ≡ row [] a ys (suc m))
  last_taken cs ds xs a m p item is some at got new =
      let l = last_of xs some in
      let size = ap length l.2 ∙ length-append l.0 (l.1 ∷ []) in
      let opened : cs ≡ row [] a (l.0 ++ l.1 ∷ []) m = is ∙ ap (λ ys. row [] a ys m) l.2 in
      let here : p ≡ a + length l.0 = omega arith in
      let both : Some l.1 ≡ Some item = sym (get_final a l.0 l.1 m p here) ∙ ap (λ c. get_or c p None) (sym opened) ∙ got in
      let same : l.1 ≡ item = cc in
      (l.0, l.2 ∙ ap (λ x. l.0 ++ x ∷ []) same, new ∙ ap (λ c. set c p None) opened ∙ set_final a l.0 l.1 m p here)

  -- Nothing is left in n places.
  pub all_gone : (cs : List (Option X)) (ys : List X) (i m e n : ℕ) → cs ≡ row [] i ys m → i + length ys ≡ e → e + m ≡ n → e ≤ i → cs ≡ replicate n None
  all_gone cs ys i m e n is long all done =
      let none : ys ≡ [] = nil_from_length ys (omega arith) in
      is ∙ ap (λ l. row [] i l m) none ∙ sym (row_open [] i m n (omega arith))

  -- the room of what was all taken
  pub emptied : (cs : List (Option X)) (xs : List X) (a e n : ℕ) → cs ≡ row [] a xs (n - e) → a + length xs ≡ e → e ≤ n → length xs ≡ 0 → IsPacked cs 0 n
  emptied cs xs a e n is long fits none =
      let gone = all_gone cs xs a (n - e) e n is long (omega arith) (omega arith) in
      (packs cs [] n 0 n (gone ∙ sym (row_open [] 0 n n (omega arith))) refl (omega arith)).0
