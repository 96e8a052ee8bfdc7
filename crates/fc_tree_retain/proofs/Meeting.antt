-- Two children that become one node, or of which one takes from the other: where their children meet.
use Rattle.std.proofs.Common.{◌≡◌, ℕ, suc, zero, ◌+◌, ◌<◌, ◌≤◌, List, [], ◌∷◌, ◌++◌, length, get_or, take, drop, refl, sym, ap, subst, ◌∙◌, arith, append_assoc}
use Rattle.std.proofs.Common.{inl, inr}
use Rattle.std.specs.Prelude.{◌⊎◌}
use Rattle.std.specs.List.{AllByRecursion}
use Rattle.std.proofs.lemmas.List.{length-append}
use Rattle.std.proofs.lemmas.List.Edits.{length-remove}
use Rattle.fc_base.specs.Sizes.{capacity, min_len}
use Rattle.fc_tree_node.specs.declared.node.Node.{Node}
use Rattle.fc_tree_node.specs.Node.{own_pairs, children_of, child_at, IsInner, IsSound}
use Rattle.fc_tree_node.specs.Siblings.{AreAlike, IsMerged, IsShared}
use Rattle.fc_tree_node.proofs.Formed.{leaf_or_inner}
use Rattle.fc_tree_node.proofs.Lists.{length_take, length_set, all_front, all_back, all_at}
use Rattle.fc_tree_node.proofs.Gaps.{item_there, drop_all}
use Rattle.fc_tree_node.proofs.Siblings.{one_at, set_two, set_removed}
use Rattle.fc_tree_retain.specs.Rebalancing.{IsUnderfull, IsSeam, IsMet, IsOneMet, AreTwoMet, together}
use Rattle.fc_tree_retain.proofs.Lists.{at_place, take_place, drop_place, longer}
use Rattle.fc_tree_retain.proofs.Levels.{levelled_underfull}

module _ {K V Z : Type 0} where
  -- the children before the last one, and the last one
  record IsEnding (h : ℕ) (n : Node K V Z) : Type 0 where
    pub before : List (Node K V Z)
    pub last : Node K V Z
    pub children : children_of n ≡ before ++ last ∷ []
    pub size : length before ≡ length (own_pairs n)
    pub all : AllByRecursion (IsSound h) before
    pub underfull : IsUnderfull h last
    pub sound : 1 ≤ length (own_pairs n) → IsSound h last

  ending : (h : ℕ) (n : Node K V Z) → IsUnderfull (suc h) n → IsEnding h n
  ending h n (f, i, inl a) =
      let k : length (children_of n) ≡ length (own_pairs n) + 1 = i in
      let o = length (own_pairs n) in
      let s = all_at (IsSound h) (children_of n) o n (omega arith) a in
      let e : children_of n ≡ take o (children_of n) ++ child_at n o ∷ [] = one_at (children_of n) o n (omega arith)
      ∙ ap (λ cs. take o (children_of n) ++ child_at n o ∷ cs) (drop_all (children_of n) (suc o) (omega arith)) in
      record {
        before = take o (children_of n);
        last = child_at n o;
        children = e;
        size = length_take o (children_of n) (omega arith);
        all = all_front (IsSound h) (take o (children_of n)) (child_at n o ∷ []) (subst (AllByRecursion (IsSound h)) e a);
        underfull = levelled_underfull h (child_at n o) s.1;
        sound = λ _. s;
      }
  ending h n (f, i, inr z) =
      let k : length (children_of n) ≡ length (own_pairs n) + 1 = i in
      let none = z.0 in
      record {
        before = [];
        last = child_at n 0;
        children = one_at (children_of n) 0 n (omega arith) ∙ ap (λ cs. child_at n 0 ∷ cs) (drop_all (children_of n) 1 (omega arith));
        size = sym none;
        all = tt;
        underfull = z.1;
        sound = λ some. absurd (omega arith);
      }

  -- the first child, and those after it
  record IsBeginning (h : ℕ) (n : Node K V Z) : Type 0 where
    pub first : Node K V Z
    pub after : List (Node K V Z)
    pub children : children_of n ≡ first ∷ after
    pub size : length after ≡ length (own_pairs n)
    pub all : AllByRecursion (IsSound h) after
    pub underfull : IsUnderfull h first
    pub sound : 1 ≤ length (own_pairs n) → IsSound h first

  beginning : (h : ℕ) (n : Node K V Z) → IsUnderfull (suc h) n → IsBeginning h n
  beginning h n (f, i, inl a) =
      let k : length (children_of n) ≡ length (own_pairs n) + 1 = i in
      let e : children_of n ≡ child_at n 0 ∷ drop 1 (children_of n) = one_at (children_of n) 0 n (omega arith) in
      let b = subst (AllByRecursion (IsSound h)) e a in
      let m = ap length e in
      record {
        first = child_at n 0;
        after = drop 1 (children_of n);
        children = e;
        size = omega arith;
        all = b.1;
        underfull =
            levelled_underfull h (child_at n 0) b.0.1;
        sound = λ _. b.0;
      }
  beginning h n (f, i, inr z) =
      let k : length (children_of n) ≡ length (own_pairs n) + 1 = i in
      let none = z.0 in
      record {
        first = child_at n 0;
        after = [];
        children = one_at (children_of n) 0 n (omega arith) ∙ ap (λ cs. child_at n 0 ∷ cs) (drop_all (children_of n) 1 (omega arith));
        size = sym none;
        all = tt;
        underfull = z.1;
        sound = λ some. absurd (omega arith);
      }

  met_of : (g : ℕ) (n : Node K V Z) (i : ℕ) (A : List (Node K V Z)) (a b : Node K V Z) (B : List (Node K V Z)) → children_of n ≡ A ++ a ∷ b ∷ B → length A ≡ i
      → length (own_pairs n) ≤ capacity → IsInner n
      → AllByRecursion (IsSound g) A → IsUnderfull g a → IsUnderfull g b → AllByRecursion (IsSound g) B → (2 ≤ length (own_pairs n) → IsSound g a ⊎ IsSound g b)
      → IsMet (suc g) i n
  met_of g n i A a b B e z fits inner al ta tb bl one =
      let k : length (children_of n) ≡ length (own_pairs n) + 1 = inner in
      let m = ap length e ∙ length-append A (a ∷ b ∷ B) in
      let la : child_at n i ≡ a = ap (λ cs. get_or cs i n) e ∙ at_place A (b ∷ B) a n i z in
      let lb : child_at n (i + 1) ≡ b = ap (λ cs. get_or cs (i + 1) n) (e ∙ sym (append_assoc A (a ∷ []) (b ∷ B)))
      ∙ at_place (A ++ a ∷ []) B b n (i + 1) (length-append A (a ∷ []) ∙ ap (λ k. k + 1) z) in
      let rest : drop (suc (suc i)) (children_of n) ≡ B = ap (drop (suc (suc i))) (e ∙ sym (append_assoc A (a ∷ b ∷ []) B))
      ∙ drop_place (A ++ a ∷ b ∷ []) B (suc (suc i)) (let t = length-append A (a ∷ b ∷ []) in omega arith) in (
        record {
          in_bounds = omega arith;
          fits = fits;
          inner = inner;
          before = subst (AllByRecursion (IsSound g)) (sym (ap (take i) e ∙ take_place A (a ∷ b ∷ B) i z)) al;
          left = subst (IsUnderfull g) (sym la) ta;
          right = subst (IsUnderfull g) (sym lb) tb;
        },
        subst (AllByRecursion (IsSound g)) (sym rest) bl,
        λ two. subst (λ x. IsSound g (child_at n i) ⊎ IsSound g x) (sym lb) (subst (λ x. IsSound g x ⊎ IsSound g b) (sym la) (one two)),
      )

  -- of two children of which one has a pair, the two that meet are not both short
  one_sound : (g : ℕ) (l r : Node K V Z) (e : IsEnding g l) (b : IsBeginning g r) → 2 ≤ length (own_pairs l) + 1 + length (own_pairs r)
      → IsSound g e.last ⊎ IsSound g b.first
  one_sound g l r e b two = go (length (own_pairs l)) refl
    where
      go : (k : ℕ) → length (own_pairs l) ≡ k → IsSound g e.last ⊎ IsSound g b.first
      go zero z = inr (b.sound (omega arith))
      go (suc k) z = inl (e.sound (omega arith))

  pub one_met : (h i : ℕ) (old new : Node K V Z) → IsSeam h old i → together old i ≤ capacity → IsMerged i old new → IsInner new
      → IsOneMet h i (length (own_pairs (child_at old i))) old new
  one_met h i old new s room m inner =
      let lt = s.in_bounds in
      let d = (item_there (own_pairs old) i lt).0 in
      let L = child_at old i in
      let R = child_at old (i + 1) in
      let w = ap length (m.own d) ∙ length-append (own_pairs L) (get_or (own_pairs old) i d ∷ own_pairs R) in
      record {
        whole = m.whole;
        children = m.children ∙ set_removed (children_of old) i m.whole (omega arith);
        own = ap (λ ps. length ps + 1) m.pairs ∙ length-remove (own_pairs old) i lt;
        inner = inner;
        met = go h s.left s.right m.alike (omega arith);
        size = omega arith;
      }
    where
      go : (h : ℕ) → IsUnderfull h (child_at old i) → IsUnderfull h (child_at old (i + 1)) → AreAlike (child_at old i) m.whole
          → length (own_pairs m.whole) ≡ together old i → IsMet h (length (own_pairs (child_at old i))) m.whole
      go zero l r (inl x) z = (omega arith, x.1)
      go zero l r (inr x) z = absurd (leaf_or_inner (child_at old i) l.1 x.0)
      go (suc g) l r (inl x) z = absurd (leaf_or_inner (child_at old i) x.0 l.1)
      go (suc g) l r (inr x) z =
          let e = ending g (child_at old i) l in
          let b = beginning g (child_at old (i + 1)) r in
          let cs : children_of m.whole ≡ e.before ++ e.last ∷ b.first ∷ b.after = m.below ∙ ap (λ xs. xs ++ children_of (child_at old (i + 1))) e.children
          ∙ ap (λ ys. (e.before ++ e.last ∷ []) ++ ys) b.children ∙ append_assoc e.before (e.last ∷ []) (b.first ∷ b.after) in
          met_of g m.whole (length (own_pairs (child_at old i))) e.before e.last b.first b.after cs e.size (omega arith) x.1 e.all e.underfull b.underfull b.all
          (λ two. one_sound g (child_at old i) (child_at old (i + 1)) e b (omega arith))

  -- the children of both, whichever has how many
  parted : (g : ℕ) (L R l r : Node K V Z) (e : IsEnding g L) (b : IsBeginning g R) → children_of l ++ children_of r ≡ children_of L ++ children_of R
      → children_of l ++ children_of r ≡ e.before ++ e.last ∷ b.first ∷ b.after
  parted g L R l r e b q = q ∙ ap (λ xs. xs ++ children_of R) e.children ∙ ap (λ ys. (e.before ++ e.last ∷ []) ++ ys) b.children
      ∙ append_assoc e.before (e.last ∷ []) (b.first ∷ b.after)

  sizes : (i k : ℕ) (old new : Node K V Z) (m : IsShared i k old new) → k + length (own_pairs m.right)
      ≡ length (own_pairs (child_at old i)) + length (own_pairs (child_at old (i + 1)))
  sizes i k old new m =
      let a = length-append (own_pairs m.left) (m.between ∷ own_pairs m.right) in
      let b = ap length (m.own m.between) ∙ length-append (own_pairs (child_at old i))
      (get_or (own_pairs old) i m.between ∷ own_pairs (child_at old (i + 1))) in
      omega arith

  -- the left one took
  pub left_met : (h i k : ℕ) (old new : Node K V Z) → IsSeam h old i
      → capacity ≤ length (own_pairs (child_at old i)) + length (own_pairs (child_at old (i + 1))) → length (own_pairs (child_at old i)) < min_len
      → length (own_pairs (child_at old (i + 1))) ≤ capacity
      → k ≡ min_len + 1 → IsShared i k old new → IsInner new → AreTwoMet h i i (length (own_pairs (child_at old i))) old new
  left_met h i k old new s many few fits q m inner =
      let z = m.size in
      let t = sizes i k old new m in
      let both = go h s.left s.right m.alike_before m.alike in
      record {
        grown = m.left;
        other = m.right;
        children = inl (refl, m.children ∙ set_two (children_of old) i m.left m.right (omega arith));
        own = ap length m.pairs ∙ length_set (own_pairs old) i m.between;
        inner = inner;
        met = both.0;
        size = z ∙ q;
        sound = both.1;
      }
    where
      go : (h : ℕ) → IsUnderfull h (child_at old i) → IsUnderfull h (child_at old (i + 1)) → AreAlike (child_at old i) m.left → AreAlike m.left m.right
          → IsMet h (length (own_pairs (child_at old i))) m.left × IsSound h m.right
      go zero l r (inl x) (inl y) = let t = sizes i k old new m in ((omega arith, x.1), (omega arith, (omega arith, y.1)))
      go zero l r (inl x) (inr y) = absurd (leaf_or_inner m.left x.1 y.0)
      go zero l r (inr x) y = absurd (leaf_or_inner (child_at old i) l.1 x.0)
      go (suc g) l r (inl x) y = absurd (leaf_or_inner (child_at old i) x.0 l.1)
      go (suc g) l r (inr x) (inl y) = absurd (leaf_or_inner m.left y.0 x.1)
      go (suc g) l r (inr x) (inr y) =
          let t = sizes i k old new m in
          let L = child_at old i in
          let R = child_at old (i + 1) in
          let e = ending g L l in
          let b = beginning g R r in
          let el = length-append e.before (e.last ∷ b.first ∷ []) in
          let p = longer (children_of m.left) (children_of m.right) (e.before ++ e.last ∷ b.first ∷ []) b.after
          (parted g L R m.left m.right e b m.below ∙ sym (append_assoc e.before (e.last ∷ b.first ∷ []) b.after)) (omega arith) in
          let rest = subst (AllByRecursion (IsSound g)) p.rest b.all in
          let cs : children_of m.left ≡ e.before ++ e.last ∷ b.first ∷ p.more = p.first ∙ append_assoc e.before (e.last ∷ b.first ∷ []) p.more in (
            met_of g m.left (length (own_pairs L)) e.before e.last b.first p.more cs e.size (omega arith) y.0 e.all e.underfull b.underfull
                (all_front (IsSound g) p.more (children_of m.right) rest) (λ _. inr (b.sound (omega arith))),
            (omega arith, (omega arith, y.1, all_back (IsSound g) p.more (children_of m.right) rest)),
          )

  -- the right one took
  pub right_met : (h i k j : ℕ) (old new : Node K V Z) → IsSeam h old i → capacity ≤ length (own_pairs (child_at old i)) + length
      (own_pairs (child_at old (i + 1))) → length (own_pairs (child_at old (i + 1))) < min_len → length (own_pairs (child_at old i)) ≤ capacity
      → k + (min_len + 1) ≡ length (own_pairs (child_at old i)) + length (own_pairs (child_at old (i + 1)))
      → j + length (own_pairs (child_at old (i + 1))) ≡ min_len → IsShared i k old new → IsInner new → AreTwoMet h i (i + 1) j old new
  right_met h i k j old new s many few fits q u m inner =
      let t = sizes i k old new m in
      let both = go h s.left s.right m.alike_before m.alike in
      record {
        grown = m.right;
        other = m.left;
        children = inr (refl, m.children ∙ set_two (children_of old) i m.left m.right (omega arith));
        own = ap length m.pairs ∙ length_set (own_pairs old) i m.between;
        inner = inner;
        met = both.0;
        size = omega arith;
        sound = both.1;
      }
    where
      go : (h : ℕ) → IsUnderfull h (child_at old i) → IsUnderfull h (child_at old (i + 1)) → AreAlike (child_at old i) m.left → AreAlike m.left m.right
          → IsMet h j m.right × IsSound h m.left
      go zero l r (inl x) (inl y) = let t = sizes i k old new m in ((omega arith, y.1), (omega arith, (omega arith, x.1)))
      go zero l r (inl x) (inr y) = absurd (leaf_or_inner m.left x.1 y.0)
      go zero l r (inr x) y = absurd (leaf_or_inner (child_at old i) l.1 x.0)
      go (suc g) l r (inl x) y = absurd (leaf_or_inner (child_at old i) x.0 l.1)
      go (suc g) l r (inr x) (inl y) = absurd (leaf_or_inner m.left y.0 x.1)
      go (suc g) l r (inr x) (inr y) =
          let t = sizes i k old new m in
          let L = child_at old i in
          let R = child_at old (i + 1) in
          let e = ending g L l in
          let b = beginning g R r in
          let p = longer e.before (e.last ∷ b.first ∷ b.after) (children_of m.left) (children_of m.right) (sym (parted g L R m.left m.right e b m.below))
          (omega arith) in
          let pl = ap length p.first ∙ length-append (children_of m.left) p.more in
          let all = subst (AllByRecursion (IsSound g)) p.first e.all in (
            met_of g m.right j p.more e.last b.first b.after p.rest (omega arith) (omega arith) y.1 (all_back (IsSound g) (children_of m.left) p.more all)
                e.underfull b.underfull b.all (λ _. inl (e.sound (omega arith))),
            (omega arith, (omega arith, y.0, all_front (IsSound g) (children_of m.left) p.more all)),
          )
