-- Rows of places with a hole in them.
--     get_next, set_next     the first place after the hole is emptied
--     get_first, set_first     the hole's first place is filled
--     get_last, set_last     the last place before the hole is emptied
--     get_end, set_end     the hole's last place is filled
use Rattle.std.proofs.Common.{◌≡◌, ℕ, zero, suc, ◌+◌, ◌-◌, ◌<◌, List, [], ◌∷◌, ◌++◌, map, length, take, drop, set, get_or, replicate, Option, Some, None, refl}
use Rattle.std.proofs.Common.{sym, ap, ◌∙◌, arith, length-append, length-take, length-set, append_assoc, append-nil}
use Rattle.std.specs.Prelude.{true, false}
use Rattle.std.proofs.lemmas.List.{nil_from_length}
use Rattle.fc_tree_slots.specs.Cells.{IsPresent, present, holds, IsPacked, row}

module _ {X : Type 0} where
  pub length-row : (xs : List X) (k : ℕ) (ys : List X) (m : ℕ) → length (row xs k ys m) ≡ length xs + (k + (length ys + m))
  length-row [] zero [] zero = refl
  length-row [] zero [] (suc m) = let h : length (row [] 0 [] m) ≡ 0 + (0 + (0 + m)) = length-row [] zero [] m in omega arith
  length-row [] zero (y ∷ ys) m = let h = length-row [] zero ys m in omega arith
  length-row [] (suc k) ys m = let h = length-row [] k ys m in omega arith
  length-row (x ∷ xs) k ys m = let h = length-row xs k ys m in omega arith

  pub get_next : (xs : List X) (k : ℕ) (y : X) (ys : List X) (m p : ℕ) → p ≡ length xs + k → get_or (row xs k (y ∷ ys) m) p None ≡ Some y
  get_next [] zero y ys m zero e = refl
  get_next [] zero y ys m (suc p) e = absurd (omega arith)
  get_next [] (suc k) y ys m zero e = absurd (omega arith)
  get_next [] (suc k) y ys m (suc p) e = get_next [] k y ys m p (omega arith)
  get_next (x ∷ xs) k y ys m zero e = absurd (omega arith)
  get_next (x ∷ xs) k y ys m (suc p) e = get_next xs k y ys m p (omega arith)

  pub set_next : (xs : List X) (k : ℕ) (y : X) (ys : List X) (m p : ℕ) → p ≡ length xs + k → set (row xs k (y ∷ ys) m) p None ≡ row xs (suc k) ys m
  set_next [] zero y ys m zero e = refl
  set_next [] zero y ys m (suc p) e = absurd (omega arith)
  set_next [] (suc k) y ys m zero e = absurd (omega arith)
  set_next [] (suc k) y ys m (suc p) e = ap (λ l. None ∷ l) (set_next [] k y ys m p (omega arith))
  set_next (x ∷ xs) k y ys m zero e = absurd (omega arith)
  set_next (x ∷ xs) k y ys m (suc p) e = ap (λ l. Some x ∷ l) (set_next xs k y ys m p (omega arith))

  pub get_first : (xs : List X) (k : ℕ) (ys : List X) (m p : ℕ) → p ≡ length xs → get_or (row xs (suc k) ys m) p None ≡ None
  get_first [] k ys m zero e = refl
  get_first [] k ys m (suc p) e = absurd (omega arith)
  get_first (x ∷ xs) k ys m zero e = absurd (omega arith)
  get_first (x ∷ xs) k ys m (suc p) e = get_first xs k ys m p (omega arith)

  pub set_first : (xs : List X) (k : ℕ) (ys : List X) (m p : ℕ) (x : X) → p ≡ length xs → set (row xs (suc k) ys m) p (Some x) ≡ row (xs ++ x ∷ []) k ys m
  set_first [] k ys m zero x e = refl
  set_first [] k ys m (suc p) x e = absurd (omega arith)
  set_first (y ∷ xs) k ys m zero x e = absurd (omega arith)
  set_first (y ∷ xs) k ys m (suc p) x e = ap (λ l. Some y ∷ l) (set_first xs k ys m p x (omega arith))

  pub get_last : (xs : List X) (x : X) (k : ℕ) (ys : List X) (m p : ℕ) → p ≡ length xs → get_or (row (xs ++ x ∷ []) k ys m) p None ≡ Some x
  get_last [] x k ys m zero e = refl
  get_last [] x k ys m (suc p) e = absurd (omega arith)
  get_last (y ∷ xs) x k ys m zero e = absurd (omega arith)
  get_last (y ∷ xs) x k ys m (suc p) e = get_last xs x k ys m p (omega arith)

  pub set_last : (xs : List X) (x : X) (k : ℕ) (ys : List X) (m p : ℕ) → p ≡ length xs → set (row (xs ++ x ∷ []) k ys m) p None ≡ row xs (suc k) ys m
  set_last [] x k ys m zero e = refl
  set_last [] x k ys m (suc p) e = absurd (omega arith)
  set_last (y ∷ xs) x k ys m zero e = absurd (omega arith)
  set_last (y ∷ xs) x k ys m (suc p) e = ap (λ l. Some y ∷ l) (set_last xs x k ys m p (omega arith))

  pub get_end : (xs : List X) (k : ℕ) (ys : List X) (m p : ℕ) → p ≡ length xs + k → get_or (row xs (suc k) ys m) p None ≡ None
  get_end [] k ys m zero e = refl
  get_end [] zero ys m (suc p) e = absurd (omega arith)
  get_end [] (suc k) ys m (suc p) e = get_end [] k ys m p (omega arith)
  get_end (x ∷ xs) k ys m zero e = absurd (omega arith)
  get_end (x ∷ xs) k ys m (suc p) e = get_end xs k ys m p (omega arith)

  pub set_end : (xs : List X) (k : ℕ) (ys : List X) (m p : ℕ) (y : X) → p ≡ length xs + k → set (row xs (suc k) ys m) p (Some y) ≡ row xs k (y ∷ ys) m
  set_end [] zero ys m zero y e = refl
  set_end [] zero ys m (suc p) y e = absurd (omega arith)
  set_end [] (suc k) ys m zero y e = absurd (omega arith)
  set_end [] (suc k) ys m (suc p) y e = ap (λ l. None ∷ l) (set_end [] k ys m p y (omega arith))
  set_end (x ∷ xs) k ys m zero y e = absurd (omega arith)
  set_end (x ∷ xs) k ys m (suc p) y e = ap (λ l. Some x ∷ l) (set_end xs k ys m p y (omega arith))

  -- the hole at the end is room as the rest is
  pub row_open : (xs : List X) (k m n : ℕ) → n ≡ k + m → row xs 0 [] n ≡ row xs k [] m
  row_open [] zero m n e = let same : n ≡ m = omega arith in ap (λ j. row [] 0 [] j) same
  row_open [] (suc k) m zero e = absurd (omega arith)
  row_open [] (suc k) m (suc n) e = ap (λ l. None ∷ l) (row_open [] k m n (omega arith))
  row_open (x ∷ xs) k m n e = ap (λ l. Some x ∷ l) (row_open xs k m n e)

  -- no hole
  pub row_cut : (xs ys : List X) (m : ℕ) → row (xs ++ ys) 0 [] m ≡ row xs 0 ys m
  row_cut [] ys m = refl
  row_cut (x ∷ xs) ys m = ap (λ l. Some x ∷ l) (row_cut xs ys m)

  pub present_row : (xs : List X) (k : ℕ) (ys : List X) (m : ℕ) → present (row xs k ys m) ≡ xs ++ ys
  present_row [] zero [] zero = refl
  present_row [] zero [] (suc m) = present_row [] zero [] m
  present_row [] zero (y ∷ ys) m = ap (λ l. y ∷ l) (present_row [] zero ys m)
  present_row [] (suc k) ys m = present_row [] k ys m
  present_row (x ∷ xs) k ys m = ap (λ l. x ∷ l) (present_row xs k ys m)

  holds_row : (xs : List X) (m : ℕ) → map holds (row xs 0 [] m) ≡ replicate (length xs) true ++ replicate m false
  holds_row [] zero = refl
  holds_row [] (suc m) = ap (λ l. false ∷ l) (holds_row [] m)
  holds_row (x ∷ xs) m = ap (λ l. true ∷ l) (holds_row xs m)

  pub packs : (cs : List (Option X)) (xs : List X) (m k n : ℕ) → cs ≡ row xs 0 [] m → k ≡ length xs → n ≡ k + m → IsPacked cs k n × (present cs ≡ xs)
  packs cs xs m k n e long whole =
      let left : m ≡ n - k = omega arith in (
        (omega arith, ap (map holds) e ∙ holds_row xs m ∙ (λ i. replicate (sym long i) true ++ replicate (left i) false)),
        ap present e ∙ present_row xs 0 [] m
            ∙ append-nil xs,
      )

  laid : (cs : List (Option X)) (k m : ℕ) → map holds cs ≡ replicate k true ++ replicate m false → (cs ≡ row (present cs) 0 [] m) × (length (present cs) ≡ k)
  laid [] zero zero e = (refl, refl)
  laid [] zero (suc m) e = cc
  laid [] (suc k) m e = cc
  laid (None ∷ cs) zero zero e = cc
  laid (None ∷ cs) zero (suc m) e = let rest : map holds cs ≡ replicate m false = cc in let on = laid cs zero m rest in
      let none : present cs ≡ [] = nil_from_length (present cs) on.1 in
      (ap (λ l. None ∷ l) on.0 ∙ (λ i. None ∷ row (none i) 0 [] m) ∙ (λ i. row (sym none i) 0 [] (suc m)), on.1)
  laid (None ∷ cs) (suc k) m e = cc
  laid (Some x ∷ cs) zero zero e = cc
  laid (Some x ∷ cs) zero (suc m) e = cc
  laid (Some x ∷ cs) (suc k) m e =
      let rest : map holds cs ≡ replicate k true ++ replicate m false = cc in
      let on = laid cs k m rest in (ap (λ l. Some x ∷ l) on.0, ap suc on.1)

  pub unpacks : (cs : List (Option X)) (k n : ℕ) → IsPacked cs k n → (cs ≡ row (present cs) 0 [] (n - k)) × (length (present cs) ≡ k)
  unpacks cs k n h = laid cs k (n - k) h.1

  -- the place p is one of them, and nil_from_length
  abbrev pub IsFree : List (Option X) → ℕ → Type 0
  IsFree cs p = (p < length cs) × (get_or cs p None ≡ None)

  -- the item at j, which is the first of the rest
  unfoldable pub cut_at : (ys : List X) (j : ℕ) → j < length ys → (y : X) × (drop j ys ≡ y ∷ drop (suc j) ys) × (take (suc j) ys ≡ take j ys ++ y ∷ [])
  cut_at [] j lt = absurd (omega arith)
  cut_at (y ∷ ys) zero lt = (y, refl, refl)
  cut_at (y ∷ ys) (suc j) lt = let on = cut_at ys j (omega arith) in (on.0, on.1, ap (λ l. y ∷ l) on.2)

  -- the items of ys go down by k places, the first ones first, and j have gone
  module _ (xs ys : List X) (k m j p q : ℕ) (cs : List (Option X)) (is : cs ≡ row (xs ++ take j ys) k (drop j ys) m) (lt : j < length ys)
      (at_p : p ≡ length xs + k + j) (at_q : q ≡ length xs + j) where
    abbrev zs : List X
    zs = xs ++ take j ys

    long : length zs ≡ length xs + j
    long = omega (arith, length-append xs (take j ys), length-take j ys)

    abbrev y : X
    y = (cut_at ys j lt).0

    open_row : cs ≡ row zs k (y ∷ drop (suc j) ys) m
    open_row = is ∙ ap (λ l. row zs k l m) (cut_at ys j lt).1

    taken : set cs p None ≡ row zs (suc k) (drop (suc j) ys) m
    taken = ap (λ l. set l p None) open_row ∙ set_next zs k y (drop (suc j) ys) m p (omega (arith, long))

    down_holds : get_or cs p None ≡ Some y
    down_holds = ap (λ l. get_or l p None) open_row ∙ get_next zs k y (drop (suc j) ys) m p (omega (arith, long))

    pub down_ready : IsPresent cs p × (q < length cs) × (get_or (set cs p None) q None ≡ None)
    down_ready = (
      (_, down_holds),
      omega (arith, long, length-row zs (suc k) (drop (suc j) ys) m, ap length taken, length-set cs p None),
      ap (λ l. get_or l q None) taken ∙ get_first zs k (drop (suc j) ys) m q (omega (arith, long)),
    )

    pub down_done : (es : List (Option X)) (j' : ℕ) → es ≡ set (set cs p None) q (get_or cs p None) → j' ≡ suc j → es ≡ row (xs ++ take j' ys) k (drop j' ys) m
    down_done es j' f next =
        let more : zs ++ y ∷ [] ≡ xs ++ take j' ys = append_assoc xs (take j ys) (y ∷ []) ∙ (λ i. xs ++ sym (cut_at ys j lt).2 i)
        ∙ (λ i. xs ++ take (sym next i) ys) in
        f ∙ (λ i. set (taken i) q (down_holds i)) ∙ set_first zs k (drop (suc j) ys) m q y (omega (arith, long))
        ∙ (λ i. row (more i) k (drop (sym next i) ys) m)

  -- the items of zs go up by k places, the last ones first, and those before j are left
  module _ (zs : List X) (k m j p q : ℕ) (cs : List (Option X)) (is : cs ≡ row (take (suc j) zs) k (drop (suc j) zs) m) (lt : j < length zs) (at_p : p ≡ j)
      (at_q : q ≡ j + k) where
    abbrev z : X
    z = (cut_at zs j lt).0

    short : length (take j zs) ≡ j
    short = omega (arith, length-take j zs)

    open_last : cs ≡ row (take j zs ++ z ∷ []) k (drop (suc j) zs) m
    open_last = is ∙ ap (λ l. row l k (drop (suc j) zs) m) (cut_at zs j lt).2

    lifted : set cs p None ≡ row (take j zs) (suc k) (drop (suc j) zs) m
    lifted = ap (λ l. set l p None) open_last ∙ set_last (take j zs) z k (drop (suc j) zs) m p (omega (arith, short))

    up_holds : get_or cs p None ≡ Some z
    up_holds = ap (λ l. get_or l p None) open_last ∙ get_last (take j zs) z k (drop (suc j) zs) m p (omega (arith, short))

    pub up_ready : IsPresent cs p × (q < length cs) × (get_or (set cs p None) q None ≡ None)
    up_ready = (
      (_, up_holds),
      omega (arith, short, length-row (take j zs) (suc k) (drop (suc j) zs) m, ap length lifted, length-set cs p None),
      ap (λ l. get_or l q None) lifted ∙ get_end (take j zs) k (drop (suc j) zs) m q (omega (arith, short)),
    )

    pub up_done : (es : List (Option X)) → es ≡ set (set cs p None) q (get_or cs p None) → es ≡ row (take j zs) k (drop j zs) m
    up_done es f = f ∙ (λ i. set (lifted i) q (up_holds i)) ∙ set_end (take j zs) k (drop (suc j) zs) m q z (omega (arith, short))
        ∙ (λ i. row (take j zs) k (sym (cut_at zs j lt).1 i) m)

  -- the items of ys leave a row after the first j of them, which are gone
  module _ (xs ys : List X) (m j p : ℕ) (cs : List (Option X)) (is : cs ≡ row xs j (drop j ys) m) (lt : j < length ys) (at_p : p ≡ length xs + j) where
    pub leave_holds : get_or cs p None ≡ Some (cut_at ys j lt).0
    leave_holds = ap (λ l. get_or l p None) (is ∙ ap (λ l. row xs j l m) (cut_at ys j lt).1)
        ∙ get_next xs j (cut_at ys j lt).0 (drop (suc j) ys) m p (omega arith)

    pub leave_done : (ds : List (Option X)) (j' : ℕ) → ds ≡ set cs p None → j' ≡ suc j → ds ≡ row xs j' (drop j' ys) m
    leave_done ds j' e next = e ∙ ap (λ l. set l p None) (is ∙ ap (λ l. row xs j l m) (cut_at ys j lt).1)
        ∙ set_next xs j (cut_at ys j lt).0 (drop (suc j) ys) m p (omega arith) ∙ (λ i. row xs (sym next i) (drop (sym next i) ys) m)

  -- the items of ys go one by one into a hole after us
  module _ (us ys vs : List X) (w j h q : ℕ) (cs : List (Option X)) (is : cs ≡ row (us ++ take j ys) h vs w) (lt : j < length ys) (some : 0 < h)
      (at_q : q ≡ length us + j) where
    full : length (us ++ take j ys) ≡ length us + j
    full = omega (arith, length-append us (take j ys), length-take j ys)

    abbrev left : ℕ
    left = h - 1

    one_more_place : h ≡ suc left
    one_more_place = omega arith

    holed : cs ≡ row (us ++ take j ys) (suc left) vs w
    holed = is ∙ ap (λ n. row (us ++ take j ys) n vs w) one_more_place

    pub enter_free : IsFree cs q
    enter_free =
        let size = length-row (us ++ take j ys) (suc left) vs w in let same = ap length holed in
        (omega (arith, full), ap (λ l. get_or l q None) holed ∙ get_first (us ++ take j ys) left vs w q (omega (arith, full)))

    pub enter_done : (ds : List (Option X)) (item : X) (j' h' : ℕ) → (cut_at ys j lt).0 ≡ item → ds ≡ set cs q (Some item) → j' ≡ suc j → h' + 1 ≡ h
        → ds ≡ row (us ++ take j' ys) h' vs w
    enter_done ds item j' h' same f next less =
        let fewer : left ≡ h' = omega arith in
        let more : (us ++ take j ys) ++ item ∷ [] ≡ us ++ take j' ys = append_assoc us (take j ys) (item ∷ []) ∙ (λ i. us ++ (take j ys ++ sym same i ∷ []))
        ∙ (λ i. us ++ sym (cut_at ys j lt).2 i) ∙ (λ i. us ++ take (sym next i) ys) in
        f ∙ ap (λ l. set l q (Some item)) holed ∙ set_first (us ++ take j ys) left vs w q item (omega (arith, full)) ∙ (λ i. row (more i) (fewer i) vs w)
