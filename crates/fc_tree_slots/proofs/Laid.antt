-- A list at the start of a row of places.
use Rattle.std.proofs.lemmas.List.{length-map}
use Rattle.std.proofs.Common.{◌≡◌, ℕ, zero, suc, ◌+◌, ◌-◌, ◌<◌, ◌≤◌, List, [], ◌∷◌, ◌++◌, length, take, drop, set, get_or, Option, Some, None, refl, sym, ap}
use Rattle.std.proofs.Common.{◌∙◌, arith, length-append, length-take, length-drop, append_assoc, take_at, map, replicate, take-append-drop, drop-drop}
use Rattle.fc_tree_slots.specs.declared.slots.Slots.TheInside.{Inside}
use Rattle.fc_tree_slots.specs.Cells.{present, IsPacked, row}
use Rattle.fc_tree_slots.proofs.Rows.{unpacks, packs, row_open, row_cut, cut_at, leave_done, get_first, set_first, length-row}

module _ {X : Type 0} where
  -- what the invariant of `Slots` says
  pub record IsLaid (cs : List (Option X)) (xs : List X) (k n : ℕ) : Type 0 where
    pub is : cs ≡ row xs 0 [] (n - k)
    pub long : length xs ≡ k
    pub fits : k ≤ n

  pub opened : {n : ℕ} {Z : Type 0} (u : Inside X n Z) (xs : List X) → IsPacked u.cells u.len n → present u.cells ≡ xs → IsLaid u.cells xs u.len n
  opened {n = n} u xs h e = let p = unpacks u.cells u.len n h in record {
    is = p.0 ∙ (λ i. row (e i) 0 [] (n - u.len));
    long = ap length (sym e) ∙ p.1;
    fits =
        h.0;
  }

  pub packed : (cs : List (Option X)) (xs : List X) (h m k n : ℕ) → cs ≡ row xs h [] m → k ≡ length xs → n ≡ k + (h + m) → IsPacked cs k n × (present cs ≡ xs)
  packed cs xs h m k n e long whole = packs cs xs (h + m) k n (e ∙ sym (row_open xs h m (h + m) refl)) long whole

  pub cut_row : (xs : List X) (i m : ℕ) → row xs 0 [] m ≡ row (take i xs) 0 (drop i xs) m
  cut_row xs i m = (λ j. row (sym (take-append-drop i xs) j) 0 [] m) ∙ row_cut (take i xs) (drop i xs) m

  pub open_up : (xs : List X) (h n k : ℕ) → k + h ≤ n → row xs 0 [] (n - k) ≡ row xs h [] (n - (k + h))
  open_up xs h n k le = row_open xs h (n - (k + h)) (n - k) (omega arith)

  some_at : (xs : List X) (m i : ℕ) (lt : i < length xs) → get_or (row [] 0 xs m) i None ≡ Some (cut_at xs i lt).0
  unfolding cut_at
  some_at [] m i lt = absurd (omega arith)
  some_at (x ∷ xs) m zero lt = refl
  some_at (x ∷ xs) m (suc i) lt = some_at xs m i (omega arith)

  item_at : (xs : List X) (i : ℕ) (lt : i < length xs) (d : X) → get_or xs i d ≡ (cut_at xs i lt).0
  unfolding cut_at
  item_at [] i lt d = absurd (omega arith)
  item_at (x ∷ xs) zero lt d = refl
  item_at (x ∷ xs) (suc i) lt d = item_at xs i (omega arith) d

  wrote : (xs : List X) (m i : ℕ) (w : X) → i < length xs → set (row [] 0 xs m) i (Some w) ≡ row [] 0 (set xs i w) m
  wrote [] m i w lt = absurd (omega arith)
  wrote (x ∷ xs) m zero w lt = refl
  wrote (x ∷ xs) m (suc i) w lt = ap (λ l. Some x ∷ l) (wrote xs m i w (omega arith))

  pub holds_at : (xs : List X) (m : ℕ) (cs : List (Option X)) (i : ℕ) → cs ≡ row xs 0 [] m → (lt : i < length xs) → get_or cs i None ≡ Some (cut_at xs i lt).0
  holds_at xs m cs i e lt = ap (λ l. get_or l i None) (e ∙ row_cut [] xs m) ∙ some_at xs m i lt

  pub value_at : (xs : List X) (m : ℕ) (cs : List (Option X)) (i : ℕ) (r : X) → cs ≡ row xs 0 [] m → i < length xs → get_or cs i None ≡ Some r
      → r ≡ get_or xs i r
  value_at xs m cs i r e lt got =
      let both : Some r ≡ Some (cut_at xs i lt).0 = sym got ∙ holds_at xs m cs i e lt in let same : r ≡ (cut_at xs i lt).0 = cc in same
      ∙ sym (item_at xs i lt r)

  pub written : (xs : List X) (m : ℕ) (cs : List (Option X)) (i : ℕ) (w : X) → cs ≡ row xs 0 [] m → i < length xs → set cs i (Some w) ≡ row (set xs i w) 0 [] m
  written xs m cs i w e lt = ap (λ l. set l i (Some w)) (e ∙ row_cut [] xs m) ∙ wrote xs m i w lt ∙ sym (row_cut [] (set xs i w) m)

  -- one item is taken out, and its place is the hole
  pub left_out : (xs : List X) (m : ℕ) (cs ds : List (Option X)) (i : ℕ) → cs ≡ row xs 0 [] m → i < length xs → ds ≡ set cs i None
      → ds ≡ row (take i xs) 1 (drop (suc i) xs) m
  left_out xs m cs ds i e lt f =
      let next : i + 1 ≡ suc i = omega arith in
      leave_done (take i xs) (drop i xs) m 0 i cs (e ∙ cut_row xs i m) (omega (arith, length-drop i xs)) (omega (arith, length-take i xs)) ds 1 f refl
      ∙ (λ j. row (take i xs) 1 (drop-drop 1 i xs j) m) ∙ (λ j. row (take i xs) 1 (drop (next j) xs) m)

  -- the list has room for one more
  pub laid_up : {n : ℕ} {Z : Type 0} (u : Inside X n Z) (xs : List X) → IsPacked u.cells u.len n → present u.cells ≡ xs → length xs < n
      → (u.cells ≡ row xs 1 [] (n - (u.len + 1))) × (length xs ≡ u.len + 1 - 1)
  laid_up {n = n} u xs h e room = let o = opened u xs h e in (o.is ∙ open_up xs 1 n u.len (omega (arith, o.long)), omega (arith, o.long))

  pub hole_free : (xs ys : List X) (m : ℕ) (cs : List (Option X)) (i : ℕ) → cs ≡ row xs 1 ys m → i ≡ length xs → (i < length cs) × (get_or cs i None ≡ None)
  hole_free xs ys m cs i e at =
      let size = length-row xs 1 ys m in
      let same : length cs ≡ length (row xs 1 ys m) = ap length e in (omega arith, ap (λ l. get_or l i None) e ∙ get_first xs 0 ys m i at)

  -- an item is put into the hole at i
  pub put_in : (xs : List X) (m i k n : ℕ) (cs ds : List (Option X)) (x : X) → cs ≡ row (take i xs) 1 (drop i xs) m → i ≤ length xs → ds ≡ set cs i (Some x)
      → k ≡ length xs + 1 → n ≡ k + m
      → IsPacked ds k n × (present ds ≡ take i xs ++ x ∷ drop i xs)
  put_in xs m i k n cs ds x e le f long whole =
      let ys = take i xs in let zs = drop i xs in
      let is : ds ≡ row (ys ++ x ∷ []) 0 zs m = f ∙ ap (λ l. set l i (Some x)) e ∙ set_first ys 0 zs m i x (omega (arith, length-take i xs)) in
      packed ds (ys ++ x ∷ zs) 0 m k n (is ∙ sym (row_cut (ys ++ x ∷ []) zs m) ∙ (λ j. row (append_assoc ys (x ∷ []) zs j) 0 [] m))
      (omega (arith, length-append ys (x ∷ zs), length-take i xs, length-drop i xs)) (omega arith)

  -- an item is put after the last
  pub put_last : (xs : List X) (m k n : ℕ) (cs ds : List (Option X)) (x : X) → cs ≡ row xs 1 [] m → ds ≡ set cs (length xs) (Some x) → k ≡ length xs + 1
      → n ≡ k + m → IsPacked ds k n × (present ds ≡ xs ++ x ∷ [])
  put_last xs m k n cs ds x e f long whole =
      packed ds (xs ++ x ∷ []) 0 m k n (f ∙ ap (λ l. set l (length xs) (Some x)) e ∙ set_first xs 0 [] m (length xs) x refl)
      (omega (arith, length-append xs (x ∷ []))) (omega arith)

  pub all_items : (xs : List X) (m : ℕ) (cs : List (Option X)) (k : ℕ) → cs ≡ row xs 0 [] m → k ≡ length xs → take k cs ≡ map Some xs
  all_items xs m cs k e long = ap (take k) e ∙ take_at (map Some xs) (map Some [] ++ replicate m None) k (length-map xs Some ∙ sym long)

  pub same_items : (xs ys : List X) → map Some xs ≡ map Some ys → xs ≡ ys
  same_items [] [] e = refl
  same_items [] (y ∷ ys) e = cc
  same_items (x ∷ xs) [] e = cc
  same_items (x ∷ xs) (y ∷ ys) e = let first : x ≡ y = cc in let rest : map Some xs ≡ map Some ys = cc in λ i. first i ∷ same_items xs ys rest i
