-- A tree that grows, as a pair is put into its last leaf.
use Rattle.std.proofs.Common.{◌≡◌, ℕ, suc, ◌+◌, ◌-◌, ◌*◌, ◌^◌, ◌<◌, ◌≤◌, ◌↔◌, List, [], ◌∷◌, ◌++◌, length, refl, sym, ap, ◌∙◌, subst, arith, append_assoc}
use Rattle.std.proofs.Common.{append-nil, length-append, Option, Some, None, Result, Ok, Err}
use Rattle.std.specs.Result.{IfErr}
use Rattle.fc_base.specs.Sizes.{capacity, most_height}
use Rattle.fc_tree_node.specs.declared.node.Node.{Node}
use Rattle.fc_tree_node.specs.Node.{own_pairs, pairs_of, IsLeaf, IsEmptyLeaf}
use Rattle.fc_tree_node.specs.Tree.{entries, IsSoundWithin, IsSoundMap}
use Rattle.fc_tree_node.proofs.Pairs.{leaf_pairs}
use Rattle.fc_tree_drain.specs.Opened.{before_back}
use Rattle.fc_tree_build.specs.Spine.{IsSpine, level_above}
use Rattle.fc_tree_build.specs.Spares.{worth, needed}
use Rattle.fc_tree_build.specs.Built.{Grown, grown, last_pairs, last_room, IsGrown}
use Rattle.fc_tree_build.proofs.SpineFacts.{short_left}

-- as many pairs as a node takes
pub as_full : {m n : ℕ} → m ≡ n → capacity ≤ m → capacity ≤ n
as_full e f = subst (λ k. capacity ≤ k) e f

module _ {K V Z : Type 0} where
  pub grown_leaf : (o : Option (Node K V Z)) (leaf : Node K V Z) (s : List (Node K V Z)) (n : ℕ) → o ≡ Some leaf → IsGrown s o n → IsGrown s (Some leaf) n
  grown_leaf o leaf s n e g = subst (λ x. IsGrown s x n) e g

  -- what the last leaf and the nodes above it hold
  pub all_pairs : (o : Option (Node K V Z)) (leaf : Node K V Z) (s : List (Node K V Z)) (v : Grown K V) → o ≡ Some leaf → grown s o ≡ v
      → before_back s ++ own_pairs leaf ≡ v.pairs
  all_pairs o leaf s v e f = ap (λ x. before_back s ++ last_pairs x) (sym e) ∙ ap (λ x. x.pairs) f

  pub all_room : (o : Option (Node K V Z)) (leaf : Node K V Z) (s : List (Node K V Z)) (v : Grown K V) → o ≡ Some leaf → grown s o ≡ v
      → capacity - length (own_pairs leaf) ≡ v.room
  all_room o leaf s v e f = ap last_room (sym e) ∙ ap (λ x. x.room) f

  -- ---- a pair put into the last leaf

  pub put_grown : (s : List (Node K V Z)) (n : ℕ) (leaf new : Node K V Z) (p : K × V) → IsGrown s (Some leaf) n → length (own_pairs leaf) < capacity
      → own_pairs new ≡ own_pairs leaf ++ p ∷ [] → IsLeaf new ↔ IsLeaf leaf → IsGrown s (Some new) n
  put_grown s n leaf new p g less e f =
      let l = ap length e ∙ length-append (own_pairs leaf) (p ∷ []) in
      ((omega arith, f.1 g.0.1, g.0.2, g.0.3), g.1, g.2, g.3, g.4)

  pub put_pairs : (s : List (Node K V Z)) (leaf new : Node K V Z) (p : K × V) (zs : List (K × V)) → own_pairs new ≡ own_pairs leaf ++ p ∷ []
      → before_back s ++ own_pairs leaf ≡ zs → before_back s ++ own_pairs new ≡ zs ++ p ∷ []
  put_pairs s leaf new p zs e f =
      ap (λ ps. before_back s ++ ps) e ∙ sym (append_assoc (before_back s) (own_pairs leaf) (p ∷ [])) ∙ ap (λ ps. ps ++ p ∷ []) f

  pub put_room : (leaf new : Node K V Z) (p : K × V) (r : ℕ) → length (own_pairs leaf) < capacity → own_pairs new ≡ own_pairs leaf ++ p ∷ []
      → capacity - length (own_pairs leaf) ≡ r → capacity - length (own_pairs new) + 1 ≡ r
  put_room leaf new p r less e f = let l = ap length e ∙ length-append (own_pairs leaf) (p ∷ []) in omega arith

  -- ---- an empty leaf in the place of a full one

  pub grafted_grown : (s old : List (Node K V Z)) (n : ℕ) (leaf new : Node K V Z) (p : K × V) → IsGrown old (Some leaf) n → capacity ≤ length (own_pairs leaf)
      → n < 2 ^ 64 - 1 - 2 * capacity → IsEmptyLeaf new → before_back s ≡ before_back old ++ (pairs_of leaf ++ p ∷ []) → IsSpine 0 s × (length s ≤ most_height)
      → worth s ≡ worth old + 1 → ((d : ℕ) → length old ≤ d → needed old ≤ d → length s ≤ d) → IsGrown s (Some new) (n + (capacity + 1))
  grafted_grown s old n leaf new p g full low empty e levels w short =
      let own = ap length (leaf_pairs leaf g.0.1) in
      let l = ap length e ∙ length-append (before_back old) (pairs_of leaf ++ p ∷ []) in
      let m = length-append (pairs_of leaf) (p ∷ []) in
      let none = ap length empty.0 in
      ((omega arith, empty.1, levels.0, levels.1), omega arith, omega arith, omega arith, short_left old s g.4 w short)

  pub grafted_pairs : (s old : List (Node K V Z)) (leaf new : Node K V Z) (p : K × V) (zs : List (K × V)) → IsLeaf leaf → IsEmptyLeaf new
      → before_back s ≡ before_back old ++ (pairs_of leaf ++ p ∷ []) → before_back old ++ own_pairs leaf ≡ zs → before_back s ++ own_pairs new ≡ zs ++ p ∷ []
  grafted_pairs s old leaf new p zs l empty e f =
      ap (λ ps. before_back s ++ ps) empty.0 ∙ append-nil (before_back s) ∙ e ∙ ap (λ ps. before_back old ++ (ps ++ p ∷ [])) (leaf_pairs leaf l)
      ∙ sym (append_assoc (before_back old) (own_pairs leaf) (p ∷ [])) ∙ ap (λ ps. ps ++ p ∷ []) f

  -- a full leaf
  pub full_pairs : (s : List (Node K V Z)) (leaf : Node K V Z) (zs : List (K × V)) → before_back s ++ own_pairs leaf ≡ zs → capacity ≤ length (own_pairs leaf)
      → capacity ≤ length zs
  full_pairs s leaf zs e full = let l = ap length (sym e) ∙ length-append (before_back s) (own_pairs leaf) in omega arith

  -- ---- the whole tree

  pub closed_all : (s : List (Node K V Z)) (leaf root : Node K V Z) (o : Option (Node K V Z)) (zs : List (K × V)) → IsLeaf leaf → entries o ≡ pairs_of root
      → pairs_of root ≡ before_back s ++ pairs_of leaf → before_back s ++ own_pairs leaf ≡ zs → entries o ≡ zs
  closed_all s leaf root o zs l e f h = e ∙ f ∙ ap (λ ps. before_back s ++ ps) (leaf_pairs leaf l) ∙ h

  level_is : (s : List (Node K V Z)) → level_above 0 s ≡ length s
  level_is [] = refl
  level_is (b ∷ s) = ap (λ n. suc n) (level_is s)

  pub closed_sound : (s : List (Node K V Z)) (o : Option (Node K V Z)) → length s ≤ most_height → IsSoundWithin (level_above 0 s) o → IsSoundMap o
  closed_sound s None low w = tt
  closed_sound s (Some root) low w = let l = level_is s in (w.0, omega arith, w.2)

  -- no room is left in a full leaf
  pub no_room : (leaf : Node K V Z) (r : ℕ) → capacity ≤ length (own_pairs leaf) → capacity - length (own_pairs leaf) ≡ r → 0 < r → ⊥
  no_room leaf r full e some = omega arith

pub none_left : (r : ℕ) → 0 ≡ r → 0 < r → ⊥
none_left r e some = omega arith

pub if_err : {X E P : Type 0} (r : Result X E) → P → IfErr r (λ _. P)
if_err (Ok x) p = tt
if_err (Err e) p = p
