-- A new builder, and one whose last leaf was full.
use Rattle.std.proofs.Common.{◌≡◌, ℕ, zero, suc, ◌+◌, ◌-◌, ◌*◌, ◌/◌, ◌^◌, ◌<◌, ◌≤◌, ◌⊎◌, inl, inr, min, List, [], ◌∷◌, ◌++◌, length, refl, sym, ap}
use Rattle.std.proofs.Common.{◌∙◌, subst, arith, append_assoc, append-nil, length-append, Option, Some, None, ◌↔◌}
use Rattle.std.proofs.lemmas.Bool.{cases_lt}
use Rattle.std.specs.Option.{option_to_list}
use Rattle.std.specs.List.{AllByRecursion}
use Rattle.fc_base.specs.Sizes.{capacity, most_children, most_levels}
use Rattle.fc_base.proofs.Sizes.{digits_enough}
use Rattle.fc_tree_node.specs.declared.node.Node.{Node}
use Rattle.fc_tree_node.specs.Node.{own_pairs, pairs_of, IsLeaf, IsSound, IsEmptyLeaf}
use Rattle.fc_tree_node.proofs.Lists.{all_front, all_back}
use Rattle.fc_tree_node.proofs.Pairs.{leaf_pairs}
use Rattle.fc_tree_drain.specs.Opened.{before_back}
use Rattle.fc_tree_build.specs.Spares.{inner_above, inner_for, IsEnough, leaves_for}
use Rattle.fc_tree_build.specs.Built.{last_pairs, room_after, leaves_after, IsLast}

pub leaves_some : (n : ℕ) → 0 < n → n / most_children + 1 ≡ leaves_for n
leaves_some zero h = absurd (omega arith)
leaves_some (suc n) h = refl

-- both bounds, and so the lower one, are one less
pub less_room : (a b c d : ℕ) → c + 1 ≡ a → d + 1 ≡ b → min c d + 1 ≡ min a b
less_room a b c d e f = omega arith

pub some_room : (a b r : ℕ) → min a b ≡ r → 0 < r → (0 < a) × (0 < b)
some_room a b r e some = (omega arith, omega arith)

pub leaves_enough : (n : ℕ) → n ≤ most_children * leaves_for n - 1
leaves_enough zero = omega arith
leaves_enough (suc n) = let some : leaves_for (suc n) ≡ suc n / most_children + 1 = refl in omega arith

-- two leaves, or enough where they are fewer
pub made_enough : (n leaves made : ℕ) → leaves ≡ leaves_for n → made ≡ min leaves 2 → (2 ≤ made) ⊎ (n ≤ most_children * made - 1)
made_enough n leaves made e f = within (cases_lt leaves 2)
  where
    within : (leaves < 2) ⊎ (2 ≤ leaves) → (2 ≤ made) ⊎ (n ≤ most_children * made - 1)
    within (inl few) = let all = leaves_enough n in inr (omega arith)
    within (inr two) = inl (omega arith)

pub made_room : (n leaves made : ℕ) → leaves ≡ leaves_for n → made ≡ min leaves 2 → min n (most_children * made - 1) ≡ min n (2 * most_children - 1)
made_room n leaves made e f = let all = leaves_enough n in omega arith

-- with two leaves, or with enough for so many pairs: where there is none there is no pair
pub no_pair : (count n : ℕ) → (2 ≤ count) ⊎ (n ≤ most_children * count - 1) → count ≡ 0 → n ≡ 0
no_pair count n (inl two) none = absurd (omega arith)
no_pair count n (inr all) none = omega arith

-- and their list has room for two
pub first_two : (count n list room : ℕ) → count ≤ list → room ≡ most_children * count - 1 → (2 ≤ count) ⊎ (n ≤ most_children * count - 1)
    → (2 ≤ list) ⊎ (n ≤ room)
first_two count n list room few after (inl two) = inl (omega arith)
first_two count n list room few after (inr all) = inr (omega arith)

module _ {K V Z : Type 0} where
  pub leaf_taken : (old new : List (Node K V Z)) (b : Node K V Z) → old ≡ new ++ b ∷ [] → AllByRecursion (λ x. IsEmptyLeaf x) old
      → IsEmptyLeaf b × AllByRecursion (λ x. IsEmptyLeaf x) new
  leaf_taken old new b e a =
      let P : Node K V Z → Type 0 = λ x. IsEmptyLeaf x in
      let f = subst (AllByRecursion P) e a in
      ((all_back P new (b ∷ []) f).0, all_front P new (b ∷ []) f)

  -- ---- a new builder: of its leaves the last one is taken out, if there is one

  pub first_last : (n : ℕ) (all new s : List (Node K V Z)) (o : Option (Node K V Z)) → s ≡ [] → all ≡ new ++ option_to_list o
      → AllByRecursion (λ x. IsEmptyLeaf x) all → (o ≡ None → length all ≡ 0) → (length all ≡ 0 → n ≡ 0) → IsLast o n s
  first_last n all new s None f e a z w = (w (z refl), f)
  first_last n all new s (Some b) f e a z w =
      let t = (leaf_taken all new b e a).0 in
      let l = ap length t.0 in
      (omega arith, t.1)

  -- it holds nothing
  pub first_none : (all new : List (Node K V Z)) (o : Option (Node K V Z)) → all ≡ new ++ option_to_list o → AllByRecursion (λ x. IsEmptyLeaf x) all
      → last_pairs o ≡ []
  first_none all new None e a = refl
  first_none all new (Some b) e a = (leaf_taken all new b e a).0.0

  -- for how many pairs there is room in all the leaves
  pub first_room : (count : ℕ) (all new : List (Node K V Z)) (o : Option (Node K V Z)) → all ≡ new ++ option_to_list o → length all ≡ count
      → AllByRecursion (λ x. IsEmptyLeaf x) all → (o ≡ None → length all ≡ 0) → room_after o (length new) ≡ most_children * count - 1
  first_room count all new None e l a z = let none = z refl in omega arith
  first_room count all new (Some b) e l a z =
      let k = ap length e ∙ length-append new (b ∷ []) in
      let none = ap length (leaf_taken all new b e a).0.0 in
      omega arith

  pub first_leaves : (all new : List (Node K V Z)) (o : Option (Node K V Z)) → all ≡ new ++ option_to_list o → AllByRecursion (λ x. IsEmptyLeaf x) all
      → AllByRecursion (λ x. IsEmptyLeaf x) new
  first_leaves all new o e a =
      let P : Node K V Z → Type 0 = λ x. IsEmptyLeaf x in
      all_front P new (option_to_list o) (subst (AllByRecursion P) e a)

  pub first_enough : (n inner q : ℕ) (s : List (Node K V Z)) → s ≡ [] → n < 2 ^ 64 → q ≡ n / most_children → inner ≡ inner_for n → IsEnough inner q s
  first_enough n inner q (b ∷ s) f fits l i = absurd (cc f)
  first_enough n inner q [] f fits l i =
      let high = digits_enough in
      let all : inner_for n ≡ inner_above most_levels (0 + q) = ap (inner_above most_levels) (omega arith) in
      (omega arith, omega arith, omega arith, omega arith)

  pub first_pairs : (all new s : List (Node K V Z)) (o : Option (Node K V Z)) → s ≡ [] → all ≡ new ++ option_to_list o → AllByRecursion (λ x. IsEmptyLeaf x) all
      → before_back s ++ last_pairs o ≡ []
  first_pairs all new s o f e a = ap (λ t. before_back t ++ last_pairs o) f ∙ first_none all new o e a

  -- ---- a builder whose last leaf is full

  pub last_is : (o : Option (Node K V Z)) (leaf : Node K V Z) (limit : ℕ) (s : List (Node K V Z)) → o ≡ Some leaf → IsLast o limit s
      → IsLast (Some leaf) limit s
  last_is o leaf limit s e l = subst (λ x. IsLast x limit s) e l

  pub leaf_sound : (n : Node K V Z) → length (own_pairs n) ≤ capacity → IsLeaf n → capacity ≤ length (own_pairs n) → IsSound 0 n
  leaf_sound n h l f = (omega arith, (h, l))

  pub push_pairs : (s new : List (Node K V Z)) (empty : Node K V Z) (o : Option (Node K V Z)) (b : Node K V Z) (pair : K × V) (zs : List (K × V)) → o ≡ Some b
      → IsLeaf b → own_pairs empty ≡ [] → before_back s ++ last_pairs o ≡ zs → before_back new ≡ before_back s ++ (pairs_of b ++ pair ∷ [])
      → before_back new ++ own_pairs empty ≡ zs ++ pair ∷ []
  push_pairs s new empty o b pair zs e l z v f =
      ap (λ ys. before_back new ++ ys) z ∙ append-nil (before_back new) ∙ f
      ∙ ap (λ ys. before_back s ++ (ys ++ pair ∷ [])) (leaf_pairs b l) ∙ sym (append_assoc (before_back s) (own_pairs b) (pair ∷ []))
      ∙ ap (λ x. (before_back s ++ last_pairs x) ++ pair ∷ []) (sym e) ∙ ap (λ ys. ys ++ pair ∷ []) v

  -- what the last leaf and the nodes above it hold
  pub all_built : (o : Option (Node K V Z)) (leaf : Node K V Z) (s : List (Node K V Z)) (zs : List (K × V)) → o ≡ Some leaf
      → before_back s ++ last_pairs o ≡ zs → before_back s ++ own_pairs leaf ≡ zs
  all_built o leaf s zs e f = ap (λ x. before_back s ++ last_pairs x) (sym e) ∙ f

  -- what is left of the room where an empty leaf takes the place of a full one
  pub next_room : (leaf empty : Node K V Z) (spares left : ℕ) → length (own_pairs leaf) ≤ capacity → capacity ≤ length (own_pairs leaf) → own_pairs empty ≡ []
      → spares ≡ left + 1 → room_after (Some empty) left + 1 ≡ room_after (Some leaf) spares
  next_room leaf empty spares left few full e one = let none = ap length e in omega arith

  -- and of the leaves that the limit takes
  pub next_leaves : (leaf empty : Node K V Z) (limit less : ℕ) → length (own_pairs leaf) ≤ capacity → capacity ≤ length (own_pairs leaf) → own_pairs empty ≡ []
      → less + 1 ≡ limit → leaves_after (Some leaf) limit ≡ leaves_after (Some empty) less + 1
  next_leaves leaf empty limit less few full e one = let none = ap length e in omega arith

  -- ---- a builder with room in its last leaf

  pub put_room_after : (leaf new : Node K V Z) (p : K × V) (spares : ℕ) → length (own_pairs leaf) < capacity → own_pairs new ≡ own_pairs leaf ++ p ∷ []
      → room_after (Some new) spares + 1 ≡ room_after (Some leaf) spares
  put_room_after leaf new p spares few e = let n = ap length e ∙ length-append (own_pairs leaf) (p ∷ []) in omega arith

  pub put_leaves : (leaf new : Node K V Z) (p : K × V) (limit less : ℕ) → own_pairs new ≡ own_pairs leaf ++ p ∷ [] → less + 1 ≡ limit
      → leaves_after (Some leaf) limit ≡ leaves_after (Some new) less
  put_leaves leaf new p limit less e one =
      let n = ap length e ∙ length-append (own_pairs leaf) (p ∷ []) in
      let same : length (own_pairs leaf) + limit ≡ length (own_pairs new) + less = omega arith in
      ap (λ k. k / most_children) same

  pub put_last : (leaf new : Node K V Z) (p : K × V) (limit less : ℕ) (s : List (Node K V Z)) → IsLast (Some leaf) limit s
      → length (own_pairs leaf) < capacity → own_pairs new ≡ own_pairs leaf ++ p ∷ [] → IsLeaf new ↔ IsLeaf leaf → IsLast (Some new) less s
  put_last leaf new p limit less s l few e f =
      let n = ap length e ∙ length-append (own_pairs leaf) (p ∷ []) in
      (omega arith, f.1 l.1)

  -- ---- a builder that is given a leaf

  pub kept_room : (o : Option (Node K V Z)) (limit room spares more : ℕ) → min limit (room_after o spares) ≡ room → more ≡ spares + 1
      → room ≤ min limit (room_after o more)
  kept_room None limit room spares more e one = omega arith
  kept_room (Some leaf) limit room spares more e one = omega arith

  pub more_room : (o : Option (Node K V Z)) (limit room spares more : ℕ) (s : List (Node K V Z)) → IsLast o limit s → min limit (room_after o spares) ≡ room
      → more ≡ spares + 1 → min limit (min (room + most_children) (2 * most_children)) ≤ min limit (room_after o more)
  more_room None limit room spares more s l e one = let none = l.0 in omega arith
  more_room (Some leaf) limit room spares more s l e one = omega arith

  pub two_more : (o : Option (Node K V Z)) (limit spares more list new : ℕ) → more ≡ spares + 1 → list ≤ new → (2 ≤ list) ⊎ (limit ≤ room_after o spares)
      → (2 ≤ new) ⊎ (limit ≤ room_after o more)
  two_more o limit spares more list new one same (inl a) = inl (omega arith)
  two_more None limit spares more list new one same (inr a) = inr a
  two_more (Some leaf) limit spares more list new one same (inr a) = inr (omega arith)

  -- where two wait, or there are enough, one more is of no use
  pub full_room : (o : Option (Node K V Z)) (limit room spares list : ℕ) (s : List (Node K V Z)) → IsLast o limit s → min limit (room_after o spares) ≡ room
      → list ≤ spares → (2 ≤ list) ⊎ (limit ≤ room_after o spares) → min limit (min (room + most_children) (2 * most_children)) ≤ room
  full_room None limit room spares list s l e few a = let none = l.0 in omega arith
  full_room (Some leaf) limit room spares list s l e few (inl a) = omega arith
  full_room (Some leaf) limit room spares list s l e few (inr a) = omega arith

-- enough leaves stay enough
pub still_enough : (list limit room less left new : ℕ) → new ≡ list → less + 1 ≡ limit → left + 1 ≡ room → (2 ≤ list) ⊎ (limit ≤ room)
    → (2 ≤ new) ⊎ (less ≤ left)
still_enough list limit room less left new same one two (inl a) = inl (omega arith)
still_enough list limit room less left new same one two (inr a) = inr (omega arith)

pub one_less : (r : ℕ) → 0 < r → r - 1 + 1 ≡ r
one_less r some = omega arith
