-- Cells that hold just the items of a list.
use Rattle.std.proofs.Common.{◌≡◌, ℕ, suc, zero, ◌<◌, List, [], ◌∷◌, ◌++◌, length, get_or, map, refl, sym, ap, ◌∙◌, Option, Some, None, arith}
use Rattle.std.specs.List.{remove}
use Rattle.std.proofs.lemmas.List.{length-map, map-append}
use Rattle.fc_tree_drain.specs.Stack.{AreAllPresent}
use Rattle.fc_tree_slots.specs.Cells.{present}

module _ {T : Type 0} where
  present_map : (xs : List T) → present (map Some xs) ≡ xs
  present_map [] = refl
  present_map (x ∷ xs) = ap (λ ys. x ∷ ys) (present_map xs)

  -- Cells that are the items of a list.
  pub made : (cells : List (Option T)) (xs : List T) → cells ≡ map Some xs → AreAllPresent cells × (present cells ≡ xs)
  made cells xs e = let f : present cells ≡ xs = ap present e ∙ present_map xs in (e ∙ ap (map Some) (sym f), f)

  pub cells_length : (cells : List (Option T)) (xs : List T) → cells ≡ map Some xs → length cells ≡ length xs
  cells_length cells xs e = ap length e ∙ length-map xs Some

  pub push_cells : (cells new : List (Option T)) (xs : List T) (x : T) → cells ≡ map Some xs → new ≡ cells ++ Some x ∷ [] → new ≡ map Some (xs ++ x ∷ [])
  push_cells cells new xs x e f = f ∙ ap (λ cs. cs ++ Some x ∷ []) e ∙ sym (map-append Some xs (x ∷ []))

  -- What the last of the cells is.
  pub record IsPopped (xs : List T) (rest : List (Option T)) (o : Option T) : Type 0 where
    pub item : T
    pub front : List T
    pub is : o ≡ Some item
    pub split : xs ≡ front ++ item ∷ []
    pub left : rest ≡ map Some front

  pub pop_cells : (xs : List T) (rest : List (Option T)) (o : Option T) → map Some xs ≡ rest ++ o ∷ [] → IsPopped xs rest o
  pop_cells [] [] o e = absurd (cc)
  pop_cells [] (r ∷ rest) o e = absurd (cc)
  pop_cells (x ∷ []) [] o e = record { item = x; front = []; is = cc; split = refl; left = refl }
  pop_cells (x ∷ y ∷ xs) [] o e = absurd (let f : map Some (y ∷ xs) ≡ [] = cc in cc)
  pop_cells (x ∷ xs) (r ∷ rest) o e =
      let f : map Some xs ≡ rest ++ o ∷ [] = cc in
      let p = pop_cells xs rest o f in
      record { item = p.item; front = x ∷ p.front; is = p.is; split = ap (λ zs. x ∷ zs) p.split; left = cc (p.left) }

  pub not_None : (xs : List T) (i : ℕ) → i < length xs → None ≡ get_or (map Some xs) i None → ⊥
  not_None [] i h e = absurd (omega arith)
  not_None (x ∷ xs) zero h e = cc
  not_None (x ∷ xs) (suc i) h e = not_None xs i (omega arith) e

  pub item_at : (xs : List T) (i : ℕ) (x : T) → i < length xs → Some x ≡ get_or (map Some xs) i (Some x) → x ≡ get_or xs i x
  item_at [] i x h e = absurd (omega arith)
  item_at (y ∷ xs) zero x h e = cc
  item_at (y ∷ xs) (suc i) x h e = item_at xs i x (omega arith) e

  -- What the first of the cells is
  pub record IsTaken (xs : List T) (rest : List (Option T)) (o : Option T) : Type 0 where
    pub item : T
    pub above : List T
    pub is : o ≡ Some item
    pub split : xs ≡ item ∷ above
    pub left : rest ≡ map Some above

  pub take_cells : (cells rest : List (Option T)) (xs : List T) (o : Option T) → 0 < length xs → cells ≡ map Some xs → o ≡ get_or cells 0 o
      → rest ≡ remove cells 0 → IsTaken xs rest o
  take_cells cells rest [] o h e v r = absurd (omega arith)
  take_cells cells rest (x ∷ xs) o h e v r = record {
    item = x;
    above = xs;
    is = v ∙ ap (λ cs. get_or cs 0 o) e;
    split = refl;
    left = r ∙ ap (λ cs. remove cs 0) e;
  }
