-- How high nodes are of which some hold few pairs.
use Rattle.std.proofs.Common.{◌≡◌, ℕ, suc, zero, ◌+◌, ◌<◌, ◌≤◌, List, [], ◌∷◌, length, get_or, map, take, refl, ap, subst, ◌∙◌, arith, inl, inr}
use Rattle.std.specs.List.{AllByRecursion, remove}
use Rattle.std.proofs.lemmas.List.Edits.{length-remove}
use Rattle.fc_base.specs.Sizes.{capacity, min_len}
use Rattle.fc_tree_node.specs.declared.node.Node.{Node}
use Rattle.fc_tree_node.specs.Node.{own_pairs, children_of, child_at, IsLeaf, IsInner, IsLevelled, IsSound, IsSoundRoot}
use Rattle.fc_tree_node.specs.Shrunk.{IsShrunk}
use Rattle.fc_tree_node.specs.Siblings.{AreAlike, IsFormed}
use Rattle.fc_tree_node.proofs.Formed.{leaf_or_inner}
use Rattle.fc_tree_node.proofs.Pairs.{leaf_children}
use Rattle.fc_tree_node.proofs.Lists.{all_at, all_each}
use Rattle.fc_tree_node.proofs.Lent.{IsAbove, above, IsLent, lent, lent_is}
use Rattle.fc_tree_node.specs.Measures.{above_first, height_of}
use Rattle.fc_tree_node.proofs.MeasureFacts.{height_is, no_children, first_all, levelled_height}
use Rattle.fc_tree_retain.specs.Unbalanced.{IsUnbalanced}
use Rattle.fc_tree_retain.specs.Rebalancing.{IsUnderfull, IsSeam}

module _ {K V Z : Type 0} where
  pub levelled_unbalanced : (h : ℕ) (n : Node K V Z) → IsLevelled h n → IsUnbalanced h n
  levelled_unbalanced zero n l = l
  levelled_unbalanced (suc h) n l = (l.0, l.1, all_each (IsSound h) (IsUnbalanced h) (λ c s. levelled_unbalanced h c s.1) (children_of n) l.2)

  pub levelled_underfull : (h : ℕ) (n : Node K V Z) → IsLevelled h n → IsUnderfull h n
  levelled_underfull zero n l = l
  levelled_underfull (suc h) n l = (l.0, l.1, inl l.2)

  pub underfull_sound : (h : ℕ) (n : Node K V Z) → min_len ≤ length (own_pairs n) → IsUnderfull h n → IsSound h n
  underfull_sound zero n m t = (m, t)
  underfull_sound (suc h) n m (f, i, inl a) = (m, (f, i, a))
  underfull_sound (suc h) n m (f, i, inr z) = absurd (omega arith)

  pub underfull_fits : (h : ℕ) (n : Node K V Z) → IsUnderfull h n → length (own_pairs n) ≤ capacity
  underfull_fits zero n t = t.0
  underfull_fits (suc h) n t = t.0

  pub underfull_formed : (h : ℕ) (n : Node K V Z) → IsUnderfull h n → IsFormed n
  underfull_formed zero n t = inl t.1
  underfull_formed (suc h) n t = inr t.1

  pub underfull_alike : (h : ℕ) (n m : Node K V Z) → IsUnderfull h n → IsUnderfull h m → AreAlike n m
  underfull_alike zero n m t u = inl (t.1, u.1)
  underfull_alike (suc h) n m t u = inr (t.1, u.1)

  -- a node that is no leaf lies above some
  pub unbalanced_above : (h : ℕ) (n : Node K V Z) → (IsLeaf n → ⊥) → IsUnbalanced h n → IsAbove IsUnbalanced h n
  unbalanced_above h n f = above IsUnbalanced h n (λ l. f l.1)

  pub inner_above : (h : ℕ) (n : Node K V Z) → IsInner n → IsUnbalanced h n → IsAbove IsUnbalanced h n
  inner_above h n i = above IsUnbalanced h n (λ l. leaf_or_inner n l.1 i)

  pub unbalanced_child : (h : ℕ) (n : Node K V Z) (i : ℕ) → IsUnbalanced (suc h) n → i ≤ length (own_pairs n) → IsUnbalanced h (child_at n i)
  unbalanced_child h n i l le = all_at (IsUnbalanced h) (children_of n) i n (omega arith) l.2

  pub unbalanced_height : (h : ℕ) (n : Node K V Z) → IsUnbalanced h n → height_of n ≡ h
  unbalanced_height zero n l = no_children n (leaf_children n l.1)
  unbalanced_height (suc h) n l = height_is n ∙ first_all h (IsUnbalanced h) (unbalanced_height h) (children_of n)
      (omega arith) l.2

  first_height : (cs : List (Node K V Z)) (d : Node K V Z) → 0 < length cs → above_first (map height_of cs) ≡ suc (height_of (get_or cs 0 d))
  first_height [] d h = absurd (omega arith)
  first_height (c ∷ cs) d h = refl

  inner_height : (n : Node K V Z) → IsInner n → height_of n ≡ suc (height_of (child_at n 0))
  inner_height n i = height_is n ∙ first_height (children_of n) n (let e : length (children_of n) ≡ length (own_pairs n) + 1 = i in omega arith)

  pub underfull_height : (h : ℕ) (n : Node K V Z) → IsUnderfull h n → height_of n ≡ h
  underfull_height zero n t = no_children n (leaf_children n t.1)
  underfull_height (suc h) n (f, i, inl a) = height_is n ∙ first_all h (IsSound h) (λ c s. levelled_height h c s.1) (children_of n)
      (let e : length (children_of n) ≡ length (own_pairs n) + 1 = i in omega arith) a
  underfull_height (suc h) n (f, i, inr z) = inner_height n i ∙ ap suc (underfull_height h (child_at n 0) z.1)

  first_of : (h : ℕ) (cs : List (Node K V Z)) (d : Node K V Z) (i : ℕ) → 0 < length cs → AllByRecursion (IsSound h) (take (suc i) cs)
      → IsSound h (get_or cs 0 d)
  first_of h [] d i k a = absurd (omega arith)
  first_of h (c ∷ cs) d i k a = a.0

  pub seam_height : (h : ℕ) (n : Node K V Z) (i : ℕ) → IsSeam h n i → height_of n ≡ suc h
  seam_height h n zero s = inner_height n s.inner ∙ ap suc (underfull_height h (child_at n 0) s.left)
  seam_height h n (suc i) s =
      let f = first_of h (children_of n) n i (omega arith) s.before in
      inner_height n s.inner ∙ ap suc (levelled_height h (child_at n 0) f.1)

  pub leaf_fewer : (h : ℕ) (old new : Node K V Z) (i : ℕ) → i < length (own_pairs old) → IsLeaf new → IsLeaf old → own_pairs new ≡ remove (own_pairs old) i
      → IsUnbalanced h old → IsUnbalanced h new
  leaf_fewer zero old new i lt e f q l =
      let m : length (own_pairs new) ≡ length (remove (own_pairs old) i) = ap length q in
      let r = length-remove (own_pairs old) i lt in
      (omega arith, e)
  leaf_fewer (suc h) old new i lt e f q l = absurd (leaf_or_inner old f l.1)

  -- a child that is lent
  pub unbalanced_lent : (h : ℕ) (n : Node K V Z) (i : ℕ) (d : Node K V Z) → IsInner n → IsUnbalanced h n → i ≤ length (own_pairs n)
      → d ≡ get_or (children_of n) i d
      → IsLent IsUnbalanced IsUnbalanced h n d i
  unbalanced_lent h n i d inner l le q =
      let a = inner_above h n inner l in
      lent a inner le (lent_is n i d inner le q) (unbalanced_child a.below n i a.levels le)

  pub lent_falls : {h : ℕ} {n d : Node K V Z} {i : ℕ} → IsLent IsUnbalanced IsUnbalanced h n d i → height_of d < h
  lent_falls {d = d} l = let x = unbalanced_height l.below d l.child in omega (arith, l.height)

  pub underfull_levelled : (h : ℕ) (n : Node K V Z) → 1 ≤ length (own_pairs n) → IsUnderfull h n → IsLevelled h n
  underfull_levelled zero n some t = t
  underfull_levelled (suc h) n some (f, i, inl a) = (f, i, a)
  underfull_levelled (suc h) n some (f, i, inr z) = absurd (omega arith)

  -- the only child of such a root without pairs
  pub record IsUnderfullHeir (h : ℕ) (c : Node K V Z) : Type 0 where
    pub below : ℕ
    pub height : h ≡ suc below
    pub underfull : IsUnderfull below c

  pub underfull_heir : (h : ℕ) (n c : Node K V Z) → children_of n ≡ c ∷ [] → length (own_pairs n) ≡ 0 → IsUnderfull h n → IsUnderfullHeir h c
  underfull_heir zero n c e z t = absurd (let x : length (children_of n) ≡ 0 = ap length (leaf_children n t.1) in let y = ap length e in omega arith)
  underfull_heir (suc h) n c e z (f, i, inl a) = record
      { below = h; height = refl; underfull = levelled_underfull h c (subst (AllByRecursion (IsSound h)) e a).0.1 }
  underfull_heir (suc h) n c e z (f, i, inr t) = record { below = h; height = refl; underfull = subst (IsUnderfull h) (ap (λ cs. get_or cs 0 n) e) t.1 }

  -- the first child of a node without pairs, which is no leaf
  pub only_underfull : (h : ℕ) (n : Node K V Z) → IsUnderfull (suc h) n → IsUnderfull h (child_at n 0)
  only_underfull h n (f, i, inl a) = levelled_underfull h _ (all_at (IsSound h) (children_of n) 0 n
      (let e : length (children_of n) ≡ length (own_pairs n) + 1 = i in omega arith) a).1
  only_underfull h n (f, i, inr t) = t.1

  pub underfull_first : (h : ℕ) (n : Node K V Z) → (IsLeaf n → ⊥) → IsUnderfull h n → IsInner n × IsUnderfullHeir h (child_at n 0)
  underfull_first zero n up t = absurd (up t.1)
  underfull_first (suc h) n up t = (t.1, record { below = h; height = refl; underfull = only_underfull h n t })

  -- a pair was taken out of it
  pub underfull_shrunk : (h : ℕ) (old new : Node K V Z) → 1 ≤ length (own_pairs old) → ((g : ℕ) → IsSoundRoot g old → IsShrunk g old new) → IsUnderfull h old
      → IsUnderfull h new
  underfull_shrunk h old new some f t = levelled_underfull h new (f h (some, underfull_levelled h old some t)).0
