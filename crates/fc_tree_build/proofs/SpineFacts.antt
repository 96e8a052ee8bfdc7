-- A spine with a node at its end.
use Rattle.std.proofs.Common.{◌≡◌, ℕ, suc, ◌+◌, ◌-◌, ◌*◌, ◌^◌, ◌<◌, ◌≤◌, ◌⊎◌, inl, inr, List, [], ◌∷◌, ◌++◌, length, refl, sym, ap, ◌∙◌}
use Rattle.std.proofs.Common.{subst, arith, add-one, lit<, append_assoc, length-append, pow-suc}
use Rattle.std.specs.Prelude.{nat_le, if◌then◌else◌}
use Rattle.std.proofs.lemmas.Bool.{cases_lt}
use Rattle.std.proofs.Math.Nat.{pow-le-pow_right}
use Rattle.std.specs.List.{AllByRecursion}
use Rattle.fc_base.specs.Sizes.{capacity, most_children, most_height, most_levels}
use Rattle.fc_tree_node.specs.declared.node.Node.{Node}
use Rattle.fc_tree_node.specs.Node.{own_pairs, children_of, pairs_of, items_or_none, IsLeaf, IsInner, IsSound, IsEmptyInner}
use Rattle.fc_tree_node.specs.Bordered.{LastAfter, IsRightBordered}
use Rattle.fc_tree_node.proofs.Lists.{all_both, all_front, all_back}
use Rattle.fc_tree_drain.specs.Opened.{before_back_in, before_back}
use Rattle.fc_tree_drain.proofs.Opening.{back_last, whole_back, back_push, empty_back}
use Rattle.fc_tree_build.specs.Spine.{IsOpenEnd, level_above, IsSpine}
use Rattle.fc_tree_build.specs.Spares.{inner_above, own_count, digits_after, worth, needed_after, needed, IsShort, IsEnough}
use Rattle.fc_tree_build.proofs.Above.{full_one, room_one, above_first, above_next, above_grows}

more_digits : (i j : ℕ) → i ≤ j → most_children ^ i ≤ most_children ^ j
more_digits i j l = pow-le-pow_right (lit< tt) l

-- Of l nodes as many are full as are needed, and as their pairs and their digits show; or all of them are, and there is a new root.
abbrev IsTally : ℕ → ℕ → ℕ → ℕ → Type 0
IsTally a w n l = ((a ≡ l + 1) × (most_children ^ l ≤ w + 1) × (capacity * l ≤ n)) ⊎ ((a ≤ l) × (capacity * a ≤ n))

tally_more : (a w n l k : ℕ) → IsTally a w n l → IsTally (if nat_le capacity k then suc a else 0) (most_children * w + k) (n + k) (l + 1)
tally_more a w n l k t = within (cases_lt k capacity) t
  where
    within : (k < capacity) ⊎ (capacity ≤ k) → IsTally a w n l → IsTally (if nat_le capacity k then suc a else 0) (most_children * w + k) (n + k) (l + 1)
    within (inr full) (inl t) =
        let is = full_one a k full in
        let more = pow-suc most_children l in
        let next : most_children ^ (l + 1) ≡ most_children ^ suc l = ap (λ j. most_children ^ j) (add-one l) in
        inl (omega arith, omega arith, omega arith)
    within (inr full) (inr t) = let is = full_one a k full in inr (omega arith, omega arith)
    within (inl room) t = let is = room_one a k room in inr (omega arith, omega arith)

module _ {K V Z : Type 0} where
  level_push : (h : ℕ) (s : List (Node K V Z)) (b : Node K V Z) → level_above h (s ++ b ∷ []) ≡ level_above (suc h) s
  level_push h [] b = refl
  level_push h (x ∷ s) b = ap suc (level_push h s b)

  pub level_pushed : (h : ℕ) (s new : List (Node K V Z)) (b : Node K V Z) → new ≡ s ++ b ∷ [] → level_above h new ≡ level_above (suc h) s
  level_pushed h s new b e = ap (level_above h) e ∙ level_push h s b

  spine_put : (h : ℕ) (s : List (Node K V Z)) (b : Node K V Z) → IsSpine (suc h) s → IsOpenEnd h b → IsSpine h (s ++ b ∷ [])
  spine_put h [] b f o = (o, tt)
  spine_put h (x ∷ s) b f o = (subst (λ k. IsOpenEnd k x) (sym (level_push h s b)) f.0, spine_put h s b f.1 o)

  pub spine_pushed : (h : ℕ) (s new : List (Node K V Z)) (b : Node K V Z) → new ≡ s ++ b ∷ [] → IsSpine (suc h) s → IsOpenEnd h b → IsSpine h new
  spine_pushed h s new b e f o = subst (IsSpine h) (sym e) (spine_put h s b f o)

  spine_parts : (h : ℕ) (s : List (Node K V Z)) (b : Node K V Z) → IsSpine h (s ++ b ∷ []) → IsOpenEnd h b × IsSpine (suc h) s
  spine_parts h [] b f = (f.0, tt)
  spine_parts h (x ∷ s) b f = let i = spine_parts h s b f.1 in (i.0, (subst (λ k. IsOpenEnd k x) (level_push h s b) f.0, i.1))

  pub spine_popped : (h : ℕ) (old s : List (Node K V Z)) (b : Node K V Z) → old ≡ s ++ b ∷ [] → IsSpine h old → IsOpenEnd h b × IsSpine (suc h) s
  spine_popped h old s b e f = spine_parts h s b (subst (IsSpine h) e f)

  digits_push : (a : ℕ) (s : List (Node K V Z)) (b : Node K V Z) → digits_after a (s ++ b ∷ []) ≡ most_children * digits_after a s + length (own_pairs b)
  digits_push a [] b = refl
  digits_push a (x ∷ s) b = digits_push (most_children * a + length (own_pairs x)) s b

  pub worth_pushed : (s new : List (Node K V Z)) (b : Node K V Z) → new ≡ s ++ b ∷ [] → worth new ≡ most_children * worth s + length (own_pairs b)
  worth_pushed s new b e = ap worth e ∙ digits_push 0 s b

  count_push : (s : List (Node K V Z)) (b : Node K V Z) → own_count (s ++ b ∷ []) ≡ own_count s + length (own_pairs b)
  count_push [] b = omega arith
  count_push (x ∷ s) b = let i = count_push s b in omega arith

  pub count_pushed : (s new : List (Node K V Z)) (b : Node K V Z) → new ≡ s ++ b ∷ [] → own_count new ≡ own_count s + length (own_pairs b)
  count_pushed s new b e = ap own_count e ∙ count_push s b

  pub length_pushed : (s new : List (Node K V Z)) (b : Node K V Z) → new ≡ s ++ b ∷ [] → length new ≡ length s + 1
  length_pushed s new b e = ap length e ∙ length-append s (b ∷ [])

  -- ---- an empty node as the spine's end

  empty_children : (n : Node K V Z) → IsEmptyInner n → children_of n ≡ []
  empty_children n z = ap items_or_none z.1

  pub empty_end : (h : ℕ) (n : Node K V Z) → IsEmptyInner n → IsOpenEnd h n
  empty_end h n z =
      let a = ap length z.0 in
      let b = ap length (empty_children n z) in
      (omega arith, λ leaf. cc (z.1, leaf), omega arith, subst (AllByRecursion (IsSound h)) (sym (empty_children n z)) tt)

  pub empty_at_back : (s : List (Node K V Z)) (n : Node K V Z) → IsEmptyInner n → before_back s ≡ before_back s ++ before_back_in n
  empty_at_back s n z =
      let a = ap length z.0 in
      let b = ap length (empty_children n z) in
      empty_back n s 0 (omega arith, λ k. absurd (omega arith), empty_children n z) (omega arith)

  -- ---- a child at the end, and the pair that comes after it

  pub child_room : (h : ℕ) (n : Node K V Z) → IsOpenEnd h n → length (children_of n) ≤ capacity
  child_room h n o = omega arith

  children_both : (h : ℕ) (n m c : Node K V Z) → IsOpenEnd h n → children_of m ≡ children_of n ++ c ∷ [] → IsSound h c
      → AllByRecursion (IsSound h) (children_of m)
  children_both h n m c o f s = subst (AllByRecursion (IsSound h)) (sym f) (all_both (IsSound h) (children_of n) (c ∷ []) o.3 (s, tt))

  -- n, then with a child as m, then with a pair as r
  pub end_grown : (h : ℕ) (n m r c : Node K V Z) (p : K × V) → IsOpenEnd h n → own_pairs m ≡ own_pairs n → children_of m ≡ children_of n ++ c ∷ []
      → own_pairs r ≡ own_pairs m ++ p ∷ [] → children_of r ≡ children_of m → (IsLeaf r → ⊥) → length (own_pairs m) < capacity → IsSound h c → IsOpenEnd h r
  end_grown h n m r c p o e f q i k l s =
      let a = ap length e in
      let b = ap length f ∙ length-append (children_of n) (c ∷ []) in
      let d = ap length q ∙ length-append (own_pairs m) (p ∷ []) in
      let g = ap length i in
      (omega arith, k, omega arith, subst (AllByRecursion (IsSound h)) (sym i) (children_both h n m c o f s))

  pub end_pairs : (h : ℕ) (n m r c : Node K V Z) (p : K × V) → IsOpenEnd h n → own_pairs m ≡ own_pairs n → children_of m ≡ children_of n ++ c ∷ []
      → own_pairs r ≡ own_pairs m ++ p ∷ [] → children_of r ≡ children_of m → before_back_in r ≡ before_back_in n ++ (pairs_of c ++ p ∷ [])
  end_pairs h n m r c p o e f q i =
      back_last r n p c (q ∙ ap (λ ps. ps ++ p ∷ []) e) (i ∙ f) (omega arith) (omega arith)

  -- the whole spine, once its last node n has become b
  pub spine_pairs : (old s new : List (Node K V Z)) (b n c : Node K V Z) (p : K × V) → before_back old ≡ before_back s ++ before_back_in n → new ≡ s ++ b ∷ []
      → before_back_in b ≡ before_back_in n ++ (pairs_of c ++ p ∷ []) → before_back new ≡ before_back old ++ (pairs_of c ++ p ∷ [])
  spine_pairs old s new b n c p e f g =
      back_push s new b f ∙ ap (λ zs. before_back s ++ zs) g ∙ sym (append_assoc (before_back s) (before_back_in n) (pairs_of c ++ p ∷ []))
      ∙ ap (λ zs. zs ++ (pairs_of c ++ p ∷ [])) (sym e)

  -- ---- a node closed by its last child

  closed_inner : (h : ℕ) (n m c : Node K V Z) → IsOpenEnd h n → own_pairs m ≡ own_pairs n → children_of m ≡ children_of n ++ c ∷ [] → IsInner m
  closed_inner h n m c o e f =
      let a = ap length e in
      let b = ap length f ∙ length-append (children_of n) (c ∷ []) in
      omega arith

  pub closed_sound : (h : ℕ) (n m c : Node K V Z) → IsOpenEnd h n → own_pairs m ≡ own_pairs n → children_of m ≡ children_of n ++ c ∷ []
      → capacity ≤ length (own_pairs m) → IsSound h c → IsSound (suc h) m
  closed_sound h n m c o e f l s =
      let a = ap length e in
      (omega arith, (omega arith, closed_inner h n m c o e f, children_both h n m c o f s))

  pub closed_pairs : (h : ℕ) (n m c : Node K V Z) → IsOpenEnd h n → own_pairs m ≡ own_pairs n → children_of m ≡ children_of n ++ c ∷ []
      → pairs_of m ≡ before_back_in n ++ pairs_of c
  closed_pairs h n m c o e f = whole_back m n c (closed_inner h n m c o e f) f (sym e)

  last_after : (P Q : Node K V Z → Type 0) (cs : List (Node K V Z)) (c : Node K V Z) → AllByRecursion Q cs → P c → LastAfter P Q (cs ++ c ∷ [])
  last_after P Q [] c a p = p
  last_after P Q (x ∷ []) c a p = (a.0, p)
  last_after P Q (x ∷ y ∷ cs) c a p = (a.0, last_after P Q (y ∷ cs) c a.1 p)

  pub closed_bordered : (h : ℕ) (n m c : Node K V Z) → IsOpenEnd h n → own_pairs m ≡ own_pairs n → children_of m ≡ children_of n ++ c ∷ [] → IsRightBordered h c
      → IsRightBordered (suc h) m
  closed_bordered h n m c o e f r =
      let a = ap length e in (
        omega arith,
        closed_inner h n m c o e f,
        subst (LastAfter (IsRightBordered h) (IsSound h)) (sym f)
            (last_after (IsRightBordered h) (IsSound h) (children_of n) c o.3 r),
      )

  -- the pairs, where a closed node m goes up and an empty one takes its place
  pub carried_pairs : (old s up new : List (Node K V Z)) (b n m c : Node K V Z) (p : K × V) → before_back old ≡ before_back s ++ before_back_in n
      → pairs_of m ≡ before_back_in n ++ pairs_of c → before_back up ≡ before_back s ++ (pairs_of m ++ p ∷ []) → IsEmptyInner b → new ≡ up ++ b ∷ []
      → before_back new ≡ before_back old ++ (pairs_of c ++ p ∷ [])
  carried_pairs old s up new b n m c p e f g z i =
      back_push up new b i ∙ sym (empty_at_back up b z) ∙ g
      ∙ ap (λ zs. before_back s ++ (zs ++ p ∷ [])) f ∙ ap (λ zs. before_back s ++ zs) (append_assoc (before_back_in n) (pairs_of c) (p ∷ []))
      ∙ sym (append_assoc (before_back s) (before_back_in n) (pairs_of c ++ p ∷ [])) ∙ ap (λ zs. zs ++ (pairs_of c ++ p ∷ [])) (sym e)

  -- ---- spare nodes

  needed_put : (a : ℕ) (s : List (Node K V Z)) (b : Node K V Z)
      → needed_after a (s ++ b ∷ []) ≡ (if nat_le capacity (length (own_pairs b)) then suc (needed_after a s) else 0)
  needed_put a [] b = refl
  needed_put a (x ∷ s) b = needed_put (if nat_le capacity (length (own_pairs x)) then suc a else 0) s b

  pub needed_full : (old s : List (Node K V Z)) (b : Node K V Z) → old ≡ s ++ b ∷ [] → capacity ≤ length (own_pairs b) → needed old ≡ needed s + 1
  needed_full old s b e f = ap needed e ∙ needed_put 1 s b ∙ full_one (needed s) (length (own_pairs b)) f ∙ sym (add-one (needed s))

  pub needed_room : (old s : List (Node K V Z)) (b : Node K V Z) → old ≡ s ++ b ∷ [] → length (own_pairs b) < capacity → needed old ≡ 0
  needed_room old s b e f = ap needed e ∙ needed_put 1 s b ∙ room_one (needed s) (length (own_pairs b)) f

  pub last_has_room : (old s : List (Node K V Z)) (b : Node K V Z) → old ≡ s ++ b ∷ [] → needed old ≡ 0 → length (own_pairs b) < capacity
  last_has_room old s b e none = within (cases_lt (length (own_pairs b)) capacity)
    where
      within : (length (own_pairs b) < capacity) ⊎ (capacity ≤ length (own_pairs b)) → length (own_pairs b) < capacity
      within (inl room) = room
      within (inr full) = absurd (let more = needed_full old s b e full in omega (arith, none))

  pub some_needed : (s : List (Node K V Z)) → 0 < length s + needed s
  some_needed [] = omega arith
  some_needed (b ∷ s) = omega arith

  tally : (a w n l : ℕ) (s : List (Node K V Z)) → IsTally a w n l → IsTally (needed_after a s) (digits_after w s) (n + own_count s) (l + length s)
  tally a w n l [] t =
      subst (λ j. IsTally a w j (l + 0)) (let e : n ≡ n + 0 = omega arith in e) (subst (λ j. IsTally a w n j) (let e : l ≡ l + 0 = omega arith in e) t)
  tally a w n l (b ∷ s) t =
      let k = length (own_pairs b) in
      let more = tally (if nat_le capacity k then suc a else 0) (most_children * w + k) (n + k) (l + 1) s (tally_more a w n l k t) in
      let e : n + k + own_count s ≡ n + (k + own_count s) = omega arith in
      let f : l + 1 + length s ≡ l + suc (length s) = omega arith in
      subst (λ j. IsTally (needed_after a (b ∷ s)) (digits_after w (b ∷ s)) j (l + suc (length s))) e
      (subst (λ j. IsTally (needed_after a (b ∷ s)) (digits_after w (b ∷ s)) (n + k + own_count s) j) f more)

  digits_below : (h l w : ℕ) (s : List (Node K V Z)) → IsSpine h s → w < most_children ^ l → digits_after w s < most_children ^ (l + length s)
  digits_below h l w [] f b = subst (λ j. w < most_children ^ j) (let e : l ≡ l + 0 = omega arith in e) b
  digits_below h l w (n ∷ s) f b =
      let more = pow-suc most_children l in
      let all = digits_below h (suc l) (most_children * w + length (own_pairs n)) s f.1 (omega arith) in
      subst (λ j. digits_after w (n ∷ s) < most_children ^ j) (let e : suc l + length s ≡ l + suc (length s) = omega arith in e) all

  first_some : (h : ℕ) (b : Node K V Z) (s : List (Node K V Z)) → IsSpine h (b ∷ s) → IsShort (b ∷ s) → 0 < length (own_pairs b)
  first_some h b s f i = within (cases_lt 0 (length (own_pairs b)))
    where
      within : (0 < length (own_pairs b)) ⊎ (length (own_pairs b) ≤ 0) → 0 < length (own_pairs b)
      within (inl some) = some
      within (inr none) =
          let one : most_children ^ 0 ≡ 1 = refl in
          let less : worth (b ∷ s) < most_children ^ (0 + length s) = digits_below h 0 (most_children * 0 + length (own_pairs b)) s f.1 (omega arith) in
          let none : 0 + length s ≡ length s = omega arith in
          let same = ap (λ j. most_children ^ j) none in
          let long : most_children ^ suc (length s) ≤ most_children * worth (b ∷ s) + 1 = i in
          let more = pow-suc most_children (length s) in
          absurd (omega arith)

  above_later : (h d a w : ℕ) (s : List (Node K V Z)) → IsSpine h s → 0 < w → inner_above d (w + 1) ≡ inner_above d w + a
      → inner_above (d + length s) (digits_after w s + 1) ≡ inner_above (d + length s) (digits_after w s) + needed_after a s
  above_later h d a w [] f p e = subst (λ j. inner_above j (w + 1) ≡ inner_above j w + a) (let q : d ≡ d + 0 = omega arith in q) e
  above_later h d a w (b ∷ s) f p e =
      let k = length (own_pairs b) in
      let v = most_children * w + k in
      let next = above_next d w k a f.0.0 (omega arith) e in
      let all = above_later h (suc d) (if nat_le capacity k then suc a else 0) v s f.1 (omega arith) next in
      let q : suc d + length s ≡ d + suc (length s) = omega arith in
      subst (λ j. inner_above j (digits_after v s + 1) ≡ inner_above j (digits_after v s) + needed_after a (b ∷ s)) q all

  -- one more subtree takes as many nodes as are needed
  pub above_one : (h : ℕ) (s : List (Node K V Z)) → IsSpine h s → IsShort s → length s ≤ most_height
      → inner_above most_levels (worth s + 1) ≡ inner_above most_levels (worth s) + needed s
  above_one h [] f i l = above_first most_levels (omega arith)
  above_one h (b ∷ s) f i l =
      let k = length (own_pairs b) in
      let d = most_height - length s in
      let some = first_some h b s f i in
      let next = above_next d 0 k 1 f.0.0 (omega arith) (above_first d (omega arith)) in
      let all = above_later h (suc d) (if nat_le capacity k then 2 else 0) (most_children * 0 + k) s f.1 (omega arith) next in
      let q : suc d + length s ≡ most_levels = omega arith in
      subst (λ j. inner_above j (worth (b ∷ s) + 1) ≡ inner_above j (worth (b ∷ s)) + needed (b ∷ s)) q all

  pub enough_needed : (h i q : ℕ) (s : List (Node K V Z)) → IsSpine h s → 1 ≤ q → IsEnough i q s → (needed s ≤ i) × (needed s ≤ most_height)
  enough_needed h i q s f some e = (
    let one = above_one h s f e.1 e.0 in
        let grows = above_grows most_levels (worth s + 1) (worth s + q) (omega arith) in
        omega arith,
    within (tally 1 0 0 0 s (inl (omega arith, omega arith, omega arith))) (cases_lt (length s) most_height),
  )
    where
      within : IsTally (needed s) (worth s) (0 + own_count s) (0 + length s) → (length s < most_height) ⊎ (most_height ≤ length s) → needed s ≤ most_height
      within (inr t) o = omega arith
      within (inl t) (inl o) = omega arith
      within (inl t) (inr o) =
          let big = more_digits most_height (0 + length s) (omega arith) in
          absurd (omega arith)

  -- a spine stays short, with one more subtree put at its end
  pub short_left : (s new : List (Node K V Z)) → IsShort s → worth new ≡ worth s + 1 → ((d : ℕ) → length s ≤ d → needed s ≤ d → length new ≤ d) → IsShort new
  short_left s new i w f = within (tally 1 0 0 0 s (inl (omega arith, omega arith, omega arith))) (cases_lt (length s) (needed s))
    where
      within : IsTally (needed s) (worth s) (0 + own_count s) (0 + length s) → (length s < needed s) ⊎ (needed s ≤ length s) → IsShort new
      within t (inr few) =
          let l = f (length s) (omega arith) few in
          let big = more_digits (length new) (length s) l in
          let short : most_children ^ length s ≤ most_children * worth s + 1 = i in
          omega arith
      within (inr t) (inl all) = absurd (omega arith)
      within (inl t) (inl all) =
          let l = f (suc (0 + length s)) (omega arith) (omega arith) in
          let big = more_digits (length new) (suc (0 + length s)) l in
          let more = pow-suc most_children (0 + length s) in
          omega arith

  pub enough_left : (h i j q r : ℕ) (s new : List (Node K V Z)) → IsSpine h s → IsEnough i q s → q ≡ r + 1 → length new ≤ most_height
      → worth new ≡ worth s + 1 → i ≡ j + needed s → ((d : ℕ) → length s ≤ d → needed s ≤ d → length new ≤ d) → IsEnough j r new
  enough_left h i j q r s new f e one l w u short =
      let next = above_one h s f e.1 e.0 in
      let now = ap (inner_above most_levels) w in
      let last : inner_above most_levels (worth new + r) ≡ inner_above most_levels (worth s + q) = ap (inner_above most_levels) (omega arith) in
      (l, short_left s new e.1 w short, omega arith, omega arith)

  -- how many spare nodes one more subtree takes where the spine's last node has room, or where there is none
  pub used_here : (s : List (Node K V Z)) (i j l : ℕ) → (0 < length s → j ≡ i) → (0 < length s → needed s ≡ 0) → i + length s ≡ j + l + 1
      → l ≡ length s - 1 → i ≡ j + needed s
  used_here [] i j l k r n f = omega arith
  used_here (b ∷ s) i j l k r n f = let same = k (omega arith) in let none = r (omega arith) in omega arith

  pub not_empty : (s : List (Node K V Z)) (n : Node K V Z) → (length s ≡ 0 → own_pairs n ≡ []) → capacity ≤ length (own_pairs n) → 0 < length s
  not_empty [] n f h = absurd (let e = ap length (f refl) in omega arith)
  not_empty (b ∷ s) n f h = omega arith

  pub spare_taken : (old new : List (Node K V Z)) (b : Node K V Z) → old ≡ new ++ b ∷ [] → AllByRecursion (λ x. IsEmptyInner x) old
      → IsEmptyInner b × AllByRecursion (λ x. IsEmptyInner x) new
  spare_taken old new b e a =
      let P : Node K V Z → Type 0 = λ x. IsEmptyInner x in
      let f = subst (AllByRecursion P) e a in
      ((all_back P new (b ∷ []) f).0, all_front P new (b ∷ []) f)

  -- the pairs, once the last node n is closed as m
  pub closing_pairs : (old s : List (Node K V Z)) (b m c : Node K V Z) (zs : List (K × V)) → old ≡ s ++ b ∷ [] → pairs_of m ≡ before_back_in b ++ pairs_of c
      → zs ≡ before_back s ++ pairs_of m → zs ≡ before_back old ++ pairs_of c
  closing_pairs old s b m c zs e f g =
      g ∙ ap (λ ys. before_back s ++ ys) f ∙ sym (append_assoc (before_back s) (before_back_in b) (pairs_of c))
      ∙ ap (λ ys. ys ++ pairs_of c) (sym (back_push s old b e))
