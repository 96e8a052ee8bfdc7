-- A list that is cut in two at an item, which is taken out.
use Rattle.std.proofs.Common.{◌≡◌, ℕ, suc, zero, ◌+◌, ◌-◌, ◌<◌, ◌≤◌, List, [], ◌∷◌, ◌++◌, length, get_or, take, drop, refl, sym, ap, ◌∙◌, arith, add-one}
use Rattle.std.proofs.Common.{zero-add, append_assoc, length-append}
use Rattle.std.proofs.lemmas.List.Edits.{insert-append_left, insert-append_right, length-remove, insert_end}
use Rattle.std.proofs.lemmas.List.{get_or_default}
use Rattle.fc_tree_node.proofs.Lists.{length_take, take_drop}
use Rattle.std.specs.List.{insert, remove}

module _ {T : Type 0} where
  cut_suc : (xs : List T) (m : ℕ) (up : T) → m < length xs → up ≡ get_or (take (suc m) xs) m up → xs ≡ remove (take (suc m) xs) m ++ up ∷ drop (suc m) xs
  cut_suc [] m up h e = absurd (omega arith)
  cut_suc (x ∷ xs) zero up h e = ap (λ y. y ∷ xs) (sym e)
  cut_suc (x ∷ xs) (suc m) up h e = ap (λ ys. x ∷ ys) (cut_suc xs m up (omega arith) e)

  -- what was cut off, the item taken out of the end, and the rest
  pub cut_at : (xs : List T) (m : ℕ) (up : T) → m < length xs → up ≡ get_or (take (m + 1) xs) m up → xs ≡ remove (take (m + 1) xs) m ++ up ∷ drop (m + 1) xs
  cut_at xs m up h e = rw add-one (cut_suc xs m up h (rw add-one at e))

  front_length : (xs : List T) (m : ℕ) → m < length xs → length (remove (take (suc m) xs) m) ≡ m
  front_length [] m h = absurd (omega arith)
  front_length (x ∷ xs) zero h = refl
  front_length (x ∷ xs) (suc m) h = ap suc (front_length xs m (omega arith))

  -- a new item goes into the front
  pub cut_insert : (xs : List T) (m i : ℕ) (up x : T) → m < length xs → i ≤ m → up ≡ get_or (take (m + 1) xs) m up
      → insert (remove (take (m + 1) xs) m) i x ++ up ∷ drop (m + 1) xs ≡ insert xs i x
  cut_insert xs m i up x h k e =
      let n : length (remove (take (m + 1) xs) m) ≡ m = rw add-one (front_length xs m h) in
      let le : i ≤ length (remove (take (m + 1) xs) m) = omega arith in
      sym (insert-append_left (remove (take (m + 1) xs) m) (up ∷ drop (m + 1) xs) i x le) ∙ ap (λ zs. insert zs i x) (sym (cut_at xs m up h e))

  -- a new item goes into the rest
  pub cut_insert_back : (xs : List T) (m i : ℕ) (up x : T) → m < length xs → m + 1 ≤ i → up ≡ get_or (take (m + 1) xs) m up
      → remove (take (m + 1) xs) m ++ up ∷ insert (drop (m + 1) xs) (i - (m + 1)) x ≡ insert xs i x
  cut_insert_back xs m i up x h k e =
      let a = remove (take (m + 1) xs) m in
      let b = drop (m + 1) xs in
      let n : length (remove (take (m + 1) xs) m) ≡ m = rw add-one (front_length xs m h) in
      let l : length (a ++ up ∷ []) ≡ m + 1 = omega (arith, length-append a (up ∷ []), n) in
      sym (append_assoc a (up ∷ []) (insert b (i - (m + 1)) x)) ∙ sym (insert-append_right (a ++ up ∷ []) b (m + 1) i x l k)
      ∙ ap (λ zs. insert zs i x) (append_assoc a (up ∷ []) b ∙ sym (cut_at xs m up h e))

  -- a new item goes into one of two parts
  pub put_front : (xs : List T) (k i : ℕ) (x : T) → i ≤ k → k ≤ length xs → insert (take k xs) i x ++ drop k xs ≡ insert xs i x
  put_front xs k i x h l =
      let le : i ≤ length (take k xs) = rw (length_take k xs l) h in
      sym (insert-append_left (take k xs) (drop k xs) i x le) ∙ ap (λ zs. insert zs i x) (take_drop k xs)

  pub put_back : (xs : List T) (k i : ℕ) (x : T) → k ≤ i → k ≤ length xs → take k xs ++ insert (drop k xs) (i - k) x ≡ insert xs i x
  put_back xs k i x h l = sym (insert-append_right (take k xs) (drop k xs) k i x (length_take k xs l) h) ∙ ap (λ zs. insert zs i x) (take_drop k xs)

  -- the last item taken out
  pub last_out : (xs : List T) (k : ℕ) (x : T) → k + 1 ≡ length xs → x ≡ get_or xs k x → xs ≡ remove xs k ++ x ∷ []
  last_out [] k x h e = absurd (omega arith)
  last_out (y ∷ []) zero x h e = ap (λ z. z ∷ []) (sym e)
  last_out (y ∷ []) (suc k) x h e = absurd (omega arith)
  last_out (y ∷ z ∷ xs) zero x h e = absurd (omega arith)
  last_out (y ∷ z ∷ xs) (suc k) x h e = ap (λ ys. y ∷ ys) (last_out (z ∷ xs) k x (omega arith) e)

  -- an item taken out of the left part, which another one joins at the end, and its end moved to the right part
  pub back_shared : (ls rs : List T) (k : ℕ) (up down : T) → k < length ls → up ≡ get_or ls k up
      → take k (insert (remove ls k) (length (remove ls k)) down) ++ up ∷ (drop k (insert (remove ls k) (length (remove ls k)) down) ++ rs) ≡ ls ++ down ∷ rs
  back_shared [] rs k up down h e = absurd (omega arith)
  back_shared (x ∷ ls) rs zero up down h e = ap (λ y. y ∷ (insert ls (length ls) down ++ rs)) e ∙ ap (λ ys. x ∷ (ys ++ rs)) (insert_end ls down)
      ∙ ap (λ ys. x ∷ ys) (append_assoc ls (down ∷ []) rs)
  back_shared (x ∷ ls) rs (suc k) up down h e = ap (λ ys. x ∷ ys) (back_shared ls rs k up down (omega arith) e)

  -- the front of the right part moved to the left part, its last item taken out, and another one put in before them
  front_shared_suc : (ls rs : List T) (k : ℕ) (up down : T) → k < length rs → up ≡ get_or (ls ++ take (suc k) rs) (length ls + k) up
      → insert (remove (ls ++ take (suc k) rs) (length ls + k)) (length ls) down ++ up ∷ drop (suc k) rs ≡ ls ++ down ∷ rs
  front_shared_suc [] rs k up down h e = ap (λ j. down ∷ (remove (take (suc k) rs) j ++ up ∷ drop (suc k) rs)) (zero-add k)
      ∙ ap (λ ys. down ∷ ys) (sym (cut_suc rs k up h (e ∙ ap (λ j. get_or (take (suc k) rs) j up) (zero-add k))))
  front_shared_suc (x ∷ ls) rs k up down h e =
      let q : suc (length ls) + k ≡ suc (length ls + k) = omega arith in
      ap (λ j. insert (remove (x ∷ (ls ++ take (suc k) rs)) j) (suc (length ls)) down ++ up ∷ drop (suc k) rs) q
      ∙ ap (λ ys. x ∷ ys) (front_shared_suc ls rs k up down h (e ∙ ap (λ j. get_or (x ∷ (ls ++ take (suc k) rs)) j up) q))

  front_item_suc : (ls rs : List T) (k : ℕ) (up : T) → k < length rs → get_or (ls ++ take (suc k) rs) (length ls + k) up ≡ get_or rs k up
  front_item_suc [] [] k up h = absurd (omega arith)
  front_item_suc [] (x ∷ rs) zero up h = refl
  front_item_suc [] (x ∷ rs) (suc k) up h = let i = front_item_suc [] rs k up (omega arith) in ap (λ j. get_or (x ∷ take (suc k) rs) j up) (zero-add (suc k))
      ∙ ap (λ j. get_or (take (suc k) rs) j up) (sym (zero-add k)) ∙ i
  front_item_suc (x ∷ ls) rs k up h =
      let q : suc (length ls) + k ≡ suc (length ls + k) = omega arith in
      ap (λ j. get_or (x ∷ (ls ++ take (suc k) rs)) j up) q ∙ front_item_suc ls rs k up h

  -- the last of what moved from the front of the right part
  pub front_item : (ls rs : List T) (n j : ℕ) (up : T) → 1 ≤ n → n ≤ length rs → j + 1 ≡ length ls + n → up ≡ get_or (ls ++ take n rs) j up
      → up ≡ get_or rs (n - 1) up
  front_item ls rs zero j up a h q e = absurd (omega arith)
  front_item ls rs (suc k) j up a h q e =
      let i : j ≡ length ls + k = omega arith in
      let m : k ≡ suc k - 1 = omega arith in
      e ∙ ap (λ m. get_or (ls ++ take (suc k) rs) m up) i ∙ front_item_suc ls rs k up (omega arith) ∙ ap (λ j. get_or rs j up) m

  pub front_shared : (ls rs : List T) (n j : ℕ) (up down : T) → 1 ≤ n → n ≤ length rs → j + 1 ≡ length ls + n → up ≡ get_or (ls ++ take n rs) j up
      → insert (remove (ls ++ take n rs) j) (length ls) down ++ up ∷ drop n rs ≡ ls ++ down ∷ rs
  front_shared ls rs zero j up down a h q e = absurd (omega arith)
  front_shared ls rs (suc k) j up down a h q e =
      let i : j ≡ length ls + k = omega arith in
      ap (λ m. insert (remove (ls ++ take (suc k) rs) m) (length ls) down ++ up ∷ drop (suc k) rs) i
      ∙ front_shared_suc ls rs k up down (omega arith) (e ∙ ap (λ m. get_or (ls ++ take (suc k) rs) m up) i)

  -- the same, by each step on the way
  pub back_steps : (ls ps rs l₁ l₂ l₃ r₁ : List T) (n at end i : ℕ) (up down : T) → 1 ≤ n → n ≤ length ls → at ≡ length ls - n → up ≡ get_or ls at up
      → l₁ ≡ remove ls at → end ≡ length l₁ → down ≡ get_or ps i down → i < length ps → l₂ ≡ insert l₁ end down
      → l₃ ≡ take (length l₂ - n) l₂ → r₁ ≡ drop (length l₂ - n) l₂ ++ rs → (d : T) → l₃ ++ get_or ls (length ls - n) d ∷ r₁ ≡ ls ++ get_or ps i d ∷ rs
  back_steps ls ps rs l₁ l₂ l₃ r₁ n at end i up down a b c e p₁ f g h p₂ p₃ p₄ d =
      let k : length ls - n < length ls = omega arith in
      let q = p₂ ∙ ap (λ j. insert l₁ j down) f ∙ ap (λ l. insert l (length l) down) (p₁ ∙ ap (λ j. remove ls j) c) in
      let s₁ : length (remove ls (length ls - n)) + 1 ≡ length ls = length-remove ls (length ls - n) k in
      let s₂ = ap length (q ∙ insert_end (remove ls (length ls - n)) down) ∙ length-append (remove ls (length ls - n)) (down ∷ []) in
      let m : length l₂ - n ≡ length ls - n = omega arith in
      let u = e ∙ ap (λ j. get_or ls j up) c in
      ap (λ l. l ++ get_or ls (length ls - n) d ∷ r₁) (p₃ ∙ ap (λ j. take j l₂) m ∙ ap (take (length ls - n)) q)
      ∙ ap (λ r. take (length ls - n) (insert (remove ls (length ls - n)) (length (remove ls (length ls - n))) down) ++ get_or ls (length ls - n) d ∷ r)
      (p₄ ∙ ap (λ j. drop j l₂ ++ rs) m ∙ ap (λ l. drop (length ls - n) l ++ rs) q)
      ∙ ap (λ x. take (length ls - n) (insert (remove ls (length ls - n)) (length (remove ls (length ls - n))) down)
      ++ x ∷ (drop (length ls - n) (insert (remove ls (length ls - n)) (length (remove ls (length ls - n))) down) ++ rs))
      (get_or_default ls (length ls - n) d up k ∙ sym u)
      ∙ back_shared ls rs (length ls - n) up down k u
      ∙ ap (λ x. ls ++ x ∷ rs) (g ∙ get_or_default ps i down d h)

  pub front_steps : (ls ps rs l₁ l₂ l₃ r₁ : List T) (n at last i : ℕ) (up down : T) → 1 ≤ n → n ≤ length rs → at ≡ length ls → l₁ ≡ ls ++ take n rs
      → r₁ ≡ drop n rs → last + 1 ≡ length ls + n → up ≡ get_or l₁ last up → l₂ ≡ remove l₁ last → down ≡ get_or ps i down → i < length ps
      → l₃ ≡ insert l₂ at down → (d : T) → l₃ ++ get_or rs (n - 1) d ∷ r₁ ≡ ls ++ get_or ps i d ∷ rs
  front_steps ls ps rs l₁ l₂ l₃ r₁ n at last i up down a b c p₁ p₄ j e p₂ g h p₃ d =
      let u = e ∙ ap (λ l. get_or l last up) p₁ in
      let v = front_item ls rs n last up a b j u in
      let k : n - 1 < length rs = omega arith in
      ap (λ l. l ++ get_or rs (n - 1) d ∷ r₁) (p₃ ∙ ap (λ l. insert l at down) (p₂ ∙ ap (λ l. remove l last) p₁)
      ∙ ap (λ m. insert (remove (ls ++ take n rs) last) m down) c)
      ∙ ap (λ r. insert (remove (ls ++ take n rs) last) (length ls) down ++ get_or rs (n - 1) d ∷ r) p₄
      ∙ ap (λ x. insert (remove (ls ++ take n rs) last) (length ls) down ++ x ∷ drop n rs) (get_or_default rs (n - 1) d up k ∙ sym v)
      ∙ front_shared ls rs n last up down a b j u
      ∙ ap (λ x. ls ++ x ∷ rs) (g ∙ get_or_default ps i down d h)
