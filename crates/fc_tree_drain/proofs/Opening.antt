-- Nodes opened at their ends, and the stacks that they stand in.
use Rattle.std.proofs.Common.{◌≡◌, ℕ, zero, suc, ◌+◌, ◌-◌, ◌<◌, ◌≤◌, List, [], ◌∷◌, ◌++◌, length, map, refl, sym, ap, ◌∙◌, subst, arith, append_assoc}
use Rattle.std.proofs.Common.{append-nil, length-append}
use Rattle.std.specs.List.{AllByRecursion}
use Rattle.std.proofs.lemmas.List.{length-map, map-append, nil_from_length}
use Rattle.fc_base.specs.Sizes.{capacity, most_levels}
use Rattle.fc_tree_node.specs.declared.node.Node.{Node}
use Rattle.fc_tree_node.specs.Node.{own_pairs, children_of, pairs_of, IsInner, IsLevelled, IsSound, IsSoundRoot}
use Rattle.fc_tree_node.specs.Weave.{weave, before_list, after_list}
use Rattle.fc_tree_node.proofs.Lists.{all_both, all_front, all_back}
use Rattle.fc_tree_node.proofs.Pairs.{pairs_is, leaf_children}
use Rattle.fc_tree_node.proofs.Sizes.{level_size}
use Rattle.fc_tree_node.proofs.Weaves.{weave_at, after_nil}
use Rattle.fc_tree_drain.specs.Opened.{closing, AreBelow, IsOpened, IsFalling, AreEven, IsUnder, after_front_in, before_back_in, after_front, before_back}

module _ {X : Type 0} where
  before_own_more : (ps : List X) (p : X) (cs : List (List X)) (c : List X) → length cs ≡ length ps
      → before_list (cs ++ c ∷ []) (ps ++ p ∷ []) ≡ before_list cs ps ++ (c ++ p ∷ [])
  before_own_more [] p [] c e = refl
  before_own_more [] p (b ∷ cs) c e = absurd (omega arith)
  before_own_more (q ∷ ps) p [] c e = absurd (omega arith)
  before_own_more (q ∷ ps) p (b ∷ cs) c e = ap (λ zs. b ++ q ∷ zs) (before_own_more ps p cs c (omega arith)) ∙ sym (append_assoc b (q ∷ before_list cs ps) _)

  after_own_more : (ps : List X) (p : X) (cs : List (List X)) (c : List X) → length cs + 1 ≡ length ps
      → after_list (ps ++ p ∷ []) (cs ++ c ∷ []) ≡ after_list ps cs ++ (c ++ p ∷ [])
  after_own_more [] p cs c e = absurd (omega arith)
  after_own_more (q ∷ []) p [] c e = refl
  after_own_more (q ∷ []) p (b ∷ cs) c e = absurd (omega arith)
  after_own_more (q ∷ r ∷ ps) p [] c e = absurd (omega arith)
  after_own_more (q ∷ r ∷ ps) p (b ∷ cs) c e =
      ap (λ zs. q ∷ (b ++ zs)) (after_own_more (r ∷ ps) p cs c (omega arith)) ∙ ap (λ zs. q ∷ zs) (sym (append_assoc b (after_list (r ∷ ps) cs) _))

  closing_more : (k : ℕ) (ps : List X) (p : X) (cs : List (List X)) (c : List X) → length cs + k ≡ length ps → k ≤ 1
      → closing k (ps ++ p ∷ []) (cs ++ c ∷ []) ≡ closing k ps cs ++ (c ++ p ∷ [])
  closing_more zero ps p cs c e h = before_own_more ps p cs c (omega arith)
  closing_more (suc zero) ps p cs c e h = after_own_more ps p cs c e
  closing_more (suc (suc k)) ps p cs c e h = absurd (omega arith)

  closing_alone : (k : ℕ) (ps : List X) → closing k ps [] ≡ ps
  closing_alone zero ps = refl
  closing_alone (suc k) ps = after_nil ps

  closing_odd : (k : ℕ) (ps : List X) (cs : List (List X)) → 0 < k → closing k ps cs ≡ after_list ps cs
  closing_odd zero ps cs h = absurd (omega arith)
  closing_odd (suc k) ps cs h = refl

  after_first : (p : X) (ps : List X) (cs : List (List X)) → length cs ≡ length ps → after_list (p ∷ ps) cs ≡ p ∷ before_list cs ps
  after_first p [] [] e = refl
  after_first p [] (c ∷ cs) e = absurd (omega arith)
  after_first p (q ∷ ps) [] e = absurd (omega arith)
  after_first p (q ∷ ps) (c ∷ cs) e = ap (λ zs. p ∷ (c ++ zs)) (after_first q ps cs (omega arith))

  before_first : (ps : List X) (c : List X) (cs : List (List X)) → suc (length cs) ≡ length ps → before_list (c ∷ cs) ps ≡ c ++ after_list ps cs
  before_first [] c cs e = absurd (omega arith)
  before_first (p ∷ ps) c cs e = ap (λ zs. c ++ zs) (sym (after_first p ps cs (omega arith)))

  after_last : (ps : List X) (cs : List (List X)) (c : List X) → length cs + 1 ≡ length ps → after_list ps (cs ++ c ∷ []) ≡ after_list ps cs ++ c
  after_last [] cs c e = absurd (omega arith)
  after_last (p ∷ []) [] c e = ap (λ zs. p ∷ zs) (append-nil c)
  after_last (p ∷ []) (b ∷ cs) c e = absurd (omega arith)
  after_last (p ∷ q ∷ ps) [] c e = absurd (omega arith)
  after_last (p ∷ q ∷ ps) (b ∷ cs) c e =
      ap (λ zs. p ∷ (b ++ zs)) (after_last (q ∷ ps) cs c (omega arith)) ∙ ap (λ zs. p ∷ zs) (sym (append_assoc b (after_list (q ∷ ps) cs) c))

module _ {K V Z : Type 0} where
  lists : (cs : List (Node K V Z)) → length (map pairs_of cs) ≡ length cs
  lists cs = length-map cs pairs_of

  -- ---- a node's list, as a pair and a child leave it

  pub front_first : (n m : Node K V Z) (p : K × V) (c : Node K V Z) → own_pairs n ≡ p ∷ own_pairs m → children_of n ≡ c ∷ children_of m
      → after_front_in n ≡ p ∷ (pairs_of c ++ after_front_in m)
  front_first n m p c e f = ap (λ ps. after_list ps (map pairs_of (children_of n))) e ∙ ap (λ cs. after_list (p ∷ own_pairs m) (map pairs_of cs)) f

  pub front_alone : (n m : Node K V Z) (p : K × V) → own_pairs n ≡ p ∷ own_pairs m → children_of n ≡ [] → children_of m ≡ []
      → after_front_in n ≡ p ∷ after_front_in m
  front_alone n m p e f g =
      ap (λ ps. after_list ps (map pairs_of (children_of n))) e ∙ ap (λ cs. after_list (p ∷ own_pairs m) (map pairs_of cs)) f
      ∙ ap (λ ps. p ∷ ps) (sym (after_nil (own_pairs m))) ∙ ap (λ cs. p ∷ after_list (own_pairs m) (map pairs_of cs)) (sym g)

  pub back_last : (n m : Node K V Z) (p : K × V) (c : Node K V Z) → own_pairs n ≡ own_pairs m ++ p ∷ [] → children_of n ≡ children_of m ++ c ∷ []
      → length (children_of m) ≤ length (own_pairs m) → length (own_pairs m) ≤ length (children_of m) + 1
      → before_back_in n ≡ before_back_in m ++ (pairs_of c ++ p ∷ [])
  back_last n m p c e f h i =
      let k = length (own_pairs m) - length (children_of m) in
      let a = ap length e ∙ length-append (own_pairs m) (p ∷ []) in
      let b = ap length f ∙ length-append (children_of m) (c ∷ []) in
      let l = lists (children_of m) in
      let d : length (own_pairs n) - length (children_of n) ≡ k = omega arith in
      ap (λ j. closing j (own_pairs n) (map pairs_of (children_of n))) d
      ∙ ap (λ ps. closing k ps (map pairs_of (children_of n))) e
      ∙ ap (λ cs. closing k (own_pairs m ++ p ∷ []) (map pairs_of cs)) f
      ∙ ap (λ cs. closing k (own_pairs m ++ p ∷ []) cs) (map-append pairs_of (children_of m) (c ∷ []))
      ∙ closing_more k (own_pairs m) p (map pairs_of (children_of m)) (pairs_of c) (omega arith) (omega arith)

  back_own : (n : Node K V Z) → children_of n ≡ [] → before_back_in n ≡ own_pairs n
  back_own n f = ap (λ cs. closing (length (own_pairs n) - length (children_of n)) (own_pairs n) (map pairs_of cs)) f ∙ closing_alone _ (own_pairs n)

  pub back_alone : (n m : Node K V Z) (p : K × V) → own_pairs n ≡ own_pairs m ++ p ∷ [] → children_of n ≡ [] → children_of m ≡ []
      → before_back_in n ≡ before_back_in m ++ p ∷ []
  back_alone n m p e f g = back_own n f ∙ e ∙ ap (λ ps. ps ++ p ∷ []) (sym (back_own m g))

  -- ---- a whole node

  pub leaf_own : (n : Node K V Z) → children_of n ≡ [] → pairs_of n ≡ own_pairs n
  leaf_own n f = pairs_is n ∙ ap (λ cs. weave (map pairs_of cs) (own_pairs n)) f

  pub whole_front : (n m c : Node K V Z) → children_of n ≡ c ∷ children_of m → own_pairs m ≡ own_pairs n → pairs_of n ≡ pairs_of c ++ after_front_in m
  whole_front n m c f e =
      pairs_is n ∙ ap (λ cs. weave (map pairs_of cs) (own_pairs n)) f ∙ ap (λ ps. pairs_of c ++ after_list ps (map pairs_of (children_of m))) (sym e)

  pub whole_back : (n m c : Node K V Z) → IsInner n → children_of n ≡ children_of m ++ c ∷ [] → own_pairs m ≡ own_pairs n
      → pairs_of n ≡ before_back_in m ++ pairs_of c
  whole_back n m c i f e =
      let b = ap length f ∙ length-append (children_of m) (c ∷ []) in
      let a = ap length e in
      let l = lists (children_of m) in
      let k : length (own_pairs m) - length (children_of m) ≡ 0 = omega arith in
      let cs = map pairs_of (children_of m) in
      pairs_is n ∙ ap (λ xs. weave (map pairs_of xs) (own_pairs n)) f ∙ ap (λ ps. weave (map pairs_of (children_of m ++ c ∷ [])) ps) (sym e)
      ∙ ap (λ xs. weave xs (own_pairs m)) (map-append pairs_of (children_of m) (c ∷ []))
      ∙ ap (λ ps. weave (cs ++ pairs_of c ∷ []) ps) (sym (append-nil (own_pairs m)))
      ∙ weave_at cs (pairs_of c) [] (own_pairs m) [] (omega arith)
      ∙ ap (λ zs. before_list cs (own_pairs m) ++ zs) (append-nil (pairs_of c))
      ∙ ap (λ j. closing j (own_pairs m) cs ++ pairs_of c) (sym k)

  -- ---- a node that goes over to the other stack

  pub over : (n : Node K V Z) → length (children_of n) < length (own_pairs n) → before_back_in n ≡ after_front_in n
  over n h = closing_odd _ _ _ (omega arith)

  pub over_front : (n m c : Node K V Z) → length (children_of n) ≡ length (own_pairs n) → children_of n ≡ c ∷ children_of m → own_pairs m ≡ own_pairs n
      → before_back_in n ≡ pairs_of c ++ after_front_in m
  over_front n m c h f e =
      let b = ap length f in
      let a = ap length e in
      let l = lists (children_of m) in
      let k : length (own_pairs n) - length (children_of n) ≡ 0 = omega arith in
      ap (λ j. closing j (own_pairs n) (map pairs_of (children_of n))) k ∙ ap (λ cs. before_list (map pairs_of cs) (own_pairs n)) f
      ∙ ap (λ ps. before_list (map pairs_of (c ∷ children_of m)) ps) (sym e)
      ∙ before_first (own_pairs m) (pairs_of c) (map pairs_of (children_of m)) (omega arith)

  pub over_back : (n m c : Node K V Z) → length (children_of n) ≡ length (own_pairs n) → children_of n ≡ children_of m ++ c ∷ [] → own_pairs m ≡ own_pairs n
      → after_front_in n ≡ before_back_in m ++ pairs_of c
  over_back n m c h f e =
      let b = ap length f ∙ length-append (children_of m) (c ∷ []) in
      let a = ap length e in
      let l = lists (children_of m) in
      ap (λ cs. after_list (own_pairs n) (map pairs_of cs)) f ∙ ap (λ ps. after_list ps (map pairs_of (children_of m ++ c ∷ []))) (sym e)
      ∙ ap (λ cs. after_list (own_pairs m) cs) (map-append pairs_of (children_of m) (c ∷ []))
      ∙ after_last (own_pairs m) (map pairs_of (children_of m)) (pairs_of c) (omega arith)
      ∙ ap (λ zs. zs ++ pairs_of c) (sym (over m (omega arith)))

  -- ---- levels

  pub levelled_below : (h : ℕ) (n : Node K V Z) → IsLevelled h n → AreBelow h (children_of n)
  levelled_below zero n l = leaf_children n l.1
  levelled_below (suc h) n l = l.2

  pub levelled_inner : (h : ℕ) (n : Node K V Z) → IsLevelled h n → 0 < length (children_of n) → IsInner n
  levelled_inner zero n l k = absurd (let e = ap length (leaf_children n l.1) in omega arith)
  levelled_inner (suc h) n l k = l.1

  -- a child is sound one level below, and so are the others
  pub record IsParted (h : ℕ) (c : Node K V Z) (cs : List (Node K V Z)) : Type 0 where
    pub level : ℕ
    pub above : h ≡ suc level
    pub child : IsSoundRoot level c
    pub others : AreBelow h cs

  root_of_sound : (h : ℕ) (c : Node K V Z) → IsSound h c → IsSoundRoot h c
  root_of_sound h c s = (omega arith, s.1)

  pub below_first : (h : ℕ) (cs ds : List (Node K V Z)) (c : Node K V Z) → cs ≡ c ∷ ds → AreBelow h cs → IsParted h c ds
  below_first zero cs ds c e b = absurd (let f = ap length (sym b ∙ e) in omega arith)
  below_first (suc h) cs ds c e b =
      let a = subst (AllByRecursion (IsSound h)) e b in record { level = h; above = refl; child = root_of_sound h c a.0; others = a.1 }

  pub below_last : (h : ℕ) (cs ds : List (Node K V Z)) (c : Node K V Z) → cs ≡ ds ++ c ∷ [] → AreBelow h cs → IsParted h c ds
  below_last zero cs ds c e b = absurd (let f = ap length (sym b ∙ e) ∙ length-append ds (c ∷ []) in omega arith)
  below_last (suc h) cs ds c e b =
      let a = subst (AllByRecursion (IsSound h)) e b in
      record { level = h; above = refl; child = root_of_sound h c (all_back (IsSound h) ds (c ∷ []) a).0; others = all_front (IsSound h) ds (c ∷ []) a }

  pub opened_leaf : (h : ℕ) (n : Node K V Z) → length (children_of n) ≡ 0 → AreBelow h (children_of n) → IsOpened h n
  opened_leaf h n e b = (omega arith, λ k. absurd (omega arith), b)

  -- ---- stacks

  pub falling_low : (low less high : ℕ) (s : List (Node K V Z)) → less ≤ low → IsFalling low high s → IsFalling less high s
  falling_low low less high [] h f = omega arith
  falling_low low less high (b ∷ s) h f = (f.0, f.1, f.2, f.3, falling_low low less f.0 s h f.4)

  falling_high : (low high more : ℕ) (s : List (Node K V Z)) → high ≤ more → IsFalling low high s → IsFalling low more s
  falling_high low high more [] h f = omega arith
  falling_high low high more (b ∷ s) h f = (f.0, omega arith, f.2, f.3, f.4)

  falling_room : (low high : ℕ) (s : List (Node K V Z)) → IsFalling low high s → length s + low ≤ high
  falling_room low high [] f = omega arith
  falling_room low high (b ∷ s) f = let r = falling_room low f.0 s f.4 in omega arith

  falling_push : (h high : ℕ) (s : List (Node K V Z)) (b : Node K V Z) → IsFalling (suc h) high s → 0 < length (own_pairs b) → IsOpened h b
      → IsFalling h high (s ++ b ∷ [])
  falling_push h high [] b f k o = (h, omega arith, k, o, omega arith)
  falling_push h high (x ∷ s) b f k o = (f.0, f.1, f.2, f.3, falling_push h f.0 s b f.4 k o)

  -- the node on the top, and those below it
  pub record IsTop (b : Node K V Z) (s : List (Node K V Z)) (high : ℕ) : Type 0 where
    pub level : ℕ
    pub some : 0 < length (own_pairs b)
    pub opened : IsOpened level b
    pub rest : IsFalling (suc level) high s

  falling_pop : (low high : ℕ) (s : List (Node K V Z)) (b : Node K V Z) → IsFalling low high (s ++ b ∷ []) → IsTop b s high
  falling_pop low high [] b f = record { level = f.0; some = f.2; opened = f.3; rest = omega arith }
  falling_pop low high (x ∷ s) b f =
      let i = falling_pop low f.0 s b f.4 in
      record { level = i.level; some = i.some; opened = i.opened; rest = (f.0, f.1, f.2, f.3, i.rest) }

  pub front_push : (s new : List (Node K V Z)) (b : Node K V Z) → new ≡ s ++ b ∷ [] → after_front new ≡ after_front_in b ++ after_front s
  front_push [] new b e = ap after_front e ∙ sym (append-nil (after_front_in b))
  front_push (x ∷ s) new b e =
      ap after_front e ∙ ap (λ zs. zs ++ after_front_in x) (front_push s (s ++ b ∷ []) b refl)
      ∙ append_assoc (after_front_in b) (after_front s) (after_front_in x)

  pub back_push : (s new : List (Node K V Z)) (b : Node K V Z) → new ≡ s ++ b ∷ [] → before_back new ≡ before_back s ++ before_back_in b
  back_push [] new b e = ap before_back e ∙ append-nil (before_back_in b)
  back_push (x ∷ s) new b e =
      ap before_back e ∙ ap (λ zs. before_back_in x ++ zs) (back_push s (s ++ b ∷ []) b refl)
      ∙ sym (append_assoc (before_back_in x) (before_back s) (before_back_in b))

  -- ---- a whole node opened onto a stack

  pub under_room : (n : Node K V Z) (s : List (Node K V Z)) → IsUnder n s → length s < most_levels
  under_room n s u = let r = falling_room (suc u.0) most_levels s u.2 in omega arith

  pub under_levels : (n : Node K V Z) (s : List (Node K V Z)) → IsUnder n s → IsFalling 0 most_levels s
  under_levels n s u = falling_low (suc u.0) 0 most_levels s (omega arith) u.2

  pub under_few : (n : Node K V Z) (s : List (Node K V Z)) → IsUnder n s → length (own_pairs n) ≤ capacity
  under_few n s u = level_size u.0 n u.1.1

  -- without its first child it has as many children as pairs
  pub first_even : (n c : Node K V Z) (s : List (Node K V Z)) (b : Node K V Z) → IsUnder n s → children_of n ≡ c ∷ children_of b → own_pairs b ≡ own_pairs n
      → length (children_of b) ≡ length (own_pairs b)
  first_even n c s b u d e =
      let some = ap length d in
      let same = ap length e in
      let inner = levelled_inner u.0 n u.1.1 (omega arith) in
      omega arith

  -- the other children and the pairs, with the child under them
  under_parted : (n c : Node K V Z) (s new : List (Node K V Z)) (b : Node K V Z) → (u : IsUnder n s) → IsParted u.0 c (children_of b)
      → length (children_of n) ≡ length (children_of b) + 1 → own_pairs b ≡ own_pairs n → new ≡ s ++ b ∷ [] → IsUnder c new
  under_parted n c s new b u p l e f =
      let i = levelled_inner u.0 n u.1.1 (omega arith) in
      let a = ap length e in
      let o : IsOpened u.0 b = (omega arith, λ _. omega arith, p.others) in (
        p.level,
        p.child,
        subst (λ h. IsFalling h most_levels new) p.above
            (subst (IsFalling u.0 most_levels) (sym f) (falling_push u.0 most_levels s b u.2 (omega arith) o)),
      )

  pub under_first : (n c : Node K V Z) (s new : List (Node K V Z)) (b : Node K V Z) → IsUnder n s → children_of n ≡ c ∷ children_of b
      → own_pairs b ≡ own_pairs n → new ≡ s ++ b ∷ [] → IsUnder c new
  under_first n c s new b u d e f =
      under_parted n c s new b u (below_first u.0 (children_of n) (children_of b) c d (levelled_below u.0 n u.1.1)) (let l = ap length d in omega arith) e f

  pub under_last : (n c : Node K V Z) (s new : List (Node K V Z)) (b : Node K V Z) → IsUnder n s → children_of n ≡ children_of b ++ c ∷ []
      → own_pairs b ≡ own_pairs n → new ≡ s ++ b ∷ [] → IsUnder c new
  under_last n c s new b u d e f =
      under_parted n c s new b u (below_last u.0 (children_of n) (children_of b) c d (levelled_below u.0 n u.1.1))
      (ap length d ∙ length-append (children_of b) (c ∷ [])) e f

  pub first_opened : (n c : Node K V Z) (s mid : List (Node K V Z)) (new : List (K × V)) (b : Node K V Z) → children_of n ≡ c ∷ children_of b
      → own_pairs b ≡ own_pairs n → mid ≡ s ++ b ∷ [] → new ≡ pairs_of c ++ after_front mid → new ≡ pairs_of n ++ after_front s
  first_opened n c s mid new b d e f i =
      i ∙ ap (λ zs. pairs_of c ++ zs) (front_push s mid b f) ∙ sym (append_assoc (pairs_of c) (after_front_in b) (after_front s))
      ∙ ap (λ zs. zs ++ after_front s) (sym (whole_front n b c d e))

  pub last_opened : (n c : Node K V Z) (s mid : List (Node K V Z)) (new : List (K × V)) (b : Node K V Z) → IsUnder n s → children_of n ≡ children_of b ++ c ∷ []
      → own_pairs b ≡ own_pairs n → mid ≡ s ++ b ∷ [] → new ≡ before_back mid ++ pairs_of c → new ≡ before_back s ++ pairs_of n
  last_opened n c s mid new b u d e f i =
      let l = ap length d ∙ length-append (children_of b) (c ∷ []) in
      i ∙ ap (λ zs. zs ++ pairs_of c) (back_push s mid b f) ∙ append_assoc (before_back s) (before_back_in b) (pairs_of c)
      ∙ ap (λ zs. before_back s ++ zs) (sym (whole_back n b c (levelled_inner u.0 n u.1.1 (omega arith)) d e))

  -- ---- the node on the top, once its pair is out

  -- what is left of it, and its child
  pub record IsGiven (m c : Node K V Z) (s : List (Node K V Z)) : Type 0 where
    pub level : ℕ
    pub opened : IsOpened level m
    pub near : length (own_pairs m) ≤ length (children_of m) + 1
    pub rest : IsFalling (suc level) most_levels s
    pub parted : IsParted level c (children_of m)

  pub top_some : (old s : List (Node K V Z)) (b : Node K V Z) → IsFalling 0 most_levels old → old ≡ s ++ b ∷ [] → 0 < length (own_pairs b)
  top_some old s b f e = (falling_pop 0 most_levels s b (subst (IsFalling 0 most_levels) e f)).some

  pub given_leaf : (old s : List (Node K V Z)) (b m : Node K V Z) → IsFalling 0 most_levels old → old ≡ s ++ b ∷ [] → children_of m ≡ children_of b
      → length (children_of m) ≡ 0 → (h : ℕ) × IsOpened h m × IsFalling (suc h) most_levels s
  given_leaf old s b m f e d l =
      let t = falling_pop 0 most_levels s b (subst (IsFalling 0 most_levels) e f) in
      (t.level, opened_leaf t.level m l (subst (AreBelow t.level) (sym d) t.opened.2), t.rest)

  pub given_first : (old s : List (Node K V Z)) (b n m c : Node K V Z) (p : K × V) → IsFalling 0 most_levels old → old ≡ s ++ b ∷ []
      → own_pairs b ≡ p ∷ own_pairs n → children_of n ≡ children_of b → children_of n ≡ c ∷ children_of m → own_pairs m ≡ own_pairs n → IsGiven m c s
  given_first old s b n m c p f e q d i j =
      let t = falling_pop 0 most_levels s b (subst (IsFalling 0 most_levels) e f) in
      let r = below_first t.level (children_of b) (children_of m) c (sym d ∙ i) t.opened.2 in
      let lq = ap length q in
      let ld = ap length d in
      let li = ap length i in
      let lj = ap length j in
      let w = t.opened.1 (omega arith) in
      record { level = t.level; opened = (omega arith, λ _. omega arith, r.others); near = omega arith; rest = t.rest; parted = r }

  pub given_last : (old s : List (Node K V Z)) (b n m c : Node K V Z) (p : K × V) → IsFalling 0 most_levels old → old ≡ s ++ b ∷ []
      → own_pairs b ≡ own_pairs n ++ p ∷ [] → children_of n ≡ children_of b → children_of n ≡ children_of m ++ c ∷ [] → own_pairs m ≡ own_pairs n
      → IsGiven m c s
  given_last old s b n m c p f e q d i j =
      let t = falling_pop 0 most_levels s b (subst (IsFalling 0 most_levels) e f) in
      let r = below_last t.level (children_of b) (children_of m) c (sym d ∙ i) t.opened.2 in
      let lq = ap length q ∙ length-append (own_pairs n) (p ∷ []) in
      let ld = ap length d in
      let li = ap length i ∙ length-append (children_of m) (c ∷ []) in
      let lj = ap length j in
      let w = t.opened.1 (omega arith) in
      record { level = t.level; opened = (omega arith, λ _. omega arith, r.others); near = omega arith; rest = t.rest; parted = r }

  pub given_under : (m c : Node K V Z) (s new : List (Node K V Z)) → IsGiven m c s
      → ((h : ℕ) → IsOpened h m → IsFalling (suc h) most_levels s → IsFalling h most_levels new) → IsUnder c new
  given_under m c s new i k = (i.parted.level, i.parted.child, subst (λ h. IsFalling h most_levels new) i.parted.above (k i.level i.opened i.rest))

  pub kept_levels : (m : Node K V Z) (s new : List (Node K V Z)) → (h : ℕ) × IsOpened h m × IsFalling (suc h) most_levels s
      → ((h : ℕ) → IsOpened h m → IsFalling (suc h) most_levels s → IsFalling h most_levels new) → IsFalling 0 most_levels new
  kept_levels m s new i k = falling_low i.0 0 most_levels new (omega arith) (k i.0 i.1 i.2)

  -- ---- a node put back

  pub keep_room : (m : Node K V Z) (s : List (Node K V Z)) → (h : ℕ) × IsOpened h m × IsFalling (suc h) most_levels s → length s < most_levels
  keep_room m s i = let r = falling_room (suc i.0) most_levels s i.2 in omega arith

  pub kept : (s new : List (Node K V Z)) (b : Node K V Z) → 0 < length (own_pairs b) → new ≡ s ++ b ∷ [] → (h : ℕ) → IsOpened h b
      → IsFalling (suc h) most_levels s → IsFalling h most_levels new
  kept s new b k e h o f = subst (IsFalling h most_levels) (sym e) (falling_push h most_levels s b f k o)

  pub dropped : (s : List (Node K V Z)) (h : ℕ) → IsFalling (suc h) most_levels s → IsFalling h most_levels s
  dropped s h f = falling_low (suc h) h most_levels s (omega arith) f

  pub empty_front : (m : Node K V Z) (s : List (Node K V Z)) (h : ℕ) → IsOpened h m → length (own_pairs m) ≡ 0
      → after_front s ≡ after_front_in m ++ after_front s
  empty_front m s h o e = ap (λ ps. after_list ps (map pairs_of (children_of m)) ++ after_front s) (sym (nil_from_length (own_pairs m) e))

  pub empty_back : (m : Node K V Z) (s : List (Node K V Z)) (h : ℕ) → IsOpened h m → length (own_pairs m) ≡ 0
      → before_back s ≡ before_back s ++ before_back_in m
  empty_back m s h o e =
      sym (append-nil (before_back s)) ∙ ap (λ zs. before_back s ++ zs)
      (sym (nil_from_length (own_pairs m) e) ∙ sym (back_own m (nil_from_length (children_of m) (omega arith))))

  -- ---- the pairs that are left, once one is given out

  pub gave_first : (old s mid : List (Node K V Z)) (new : List (K × V)) (b n m c : Node K V Z) (p : K × V) → old ≡ s ++ b ∷ []
      → own_pairs b ≡ p ∷ own_pairs n → children_of n ≡ children_of b → children_of n ≡ c ∷ children_of m → own_pairs m ≡ own_pairs n
      → after_front mid ≡ after_front_in m ++ after_front s → new ≡ pairs_of c ++ after_front mid → after_front old ≡ p ∷ new
  gave_first old s mid new b n m c p e q d i j k l =
      front_push s old b e ∙ ap (λ zs. zs ++ after_front s) (front_first b m p c (q ∙ ap (λ ps. p ∷ ps) (sym j)) (sym d ∙ i))
      ∙ ap (λ zs. p ∷ zs) (append_assoc (pairs_of c) (after_front_in m) (after_front s) ∙ ap (λ zs. pairs_of c ++ zs) (sym k) ∙ sym l)

  pub gave_first_alone : (old s new : List (Node K V Z)) (b n : Node K V Z) (p : K × V) → old ≡ s ++ b ∷ [] → own_pairs b ≡ p ∷ own_pairs n
      → children_of n ≡ children_of b → length (children_of n) ≡ 0 → after_front new ≡ after_front_in n ++ after_front s → after_front old ≡ p ∷ after_front new
  gave_first_alone old s new b n p e q d z k =
      let f = nil_from_length (children_of n) z in
      front_push s old b e ∙ ap (λ zs. zs ++ after_front s) (front_alone b n p q (sym d ∙ f) f) ∙ ap (λ zs. p ∷ zs) (sym k)

  pub gave_last : (old s mid : List (Node K V Z)) (new : List (K × V)) (b n m c : Node K V Z) (p : K × V) → IsGiven m c s → old ≡ s ++ b ∷ []
      → own_pairs b ≡ own_pairs n ++ p ∷ [] → children_of n ≡ children_of b → children_of n ≡ children_of m ++ c ∷ [] → own_pairs m ≡ own_pairs n
      → before_back mid ≡ before_back s ++ before_back_in m → new ≡ before_back mid ++ pairs_of c → before_back old ≡ new ++ p ∷ []
  gave_last old s mid new b n m c p v e q d i j k l =
      back_push s old b e ∙ ap (λ zs. before_back s ++ zs) (back_last b m p c (q ∙ ap (λ ps. ps ++ p ∷ []) (sym j)) (sym d ∙ i) v.opened.0 v.near)
      ∙ sym (append_assoc (before_back s) (before_back_in m) (pairs_of c ++ p ∷ [])) ∙ ap (λ zs. zs ++ (pairs_of c ++ p ∷ [])) (sym k)
      ∙ sym (append_assoc (before_back mid) (pairs_of c) (p ∷ [])) ∙ ap (λ zs. zs ++ p ∷ []) (sym l)

  pub gave_last_alone : (old s new : List (Node K V Z)) (b n : Node K V Z) (p : K × V) → old ≡ s ++ b ∷ [] → own_pairs b ≡ own_pairs n ++ p ∷ []
      → children_of n ≡ children_of b → length (children_of n) ≡ 0 → before_back new ≡ before_back s ++ before_back_in n
      → before_back old ≡ before_back new ++ p ∷ []
  gave_last_alone old s new b n p e q d z k =
      let f = nil_from_length (children_of n) z in
      back_push s old b e ∙ ap (λ zs. before_back s ++ zs) (back_alone b n p q (sym d ∙ f) f) ∙ sym (append_assoc (before_back s) (before_back_in n) (p ∷ []))
      ∙ ap (λ zs. zs ++ p ∷ []) (sym k)

  -- ---- the lowest node of one stack goes over to the other, which is empty

  pub bottom_rest : (old rest : List (Node K V Z)) (b : Node K V Z) → IsFalling 0 most_levels old → old ≡ b ∷ rest → IsFalling 0 most_levels rest
  bottom_rest old rest b f e = let t = subst (IsFalling 0 most_levels) e f in falling_high 0 t.0 most_levels rest (omega arith) t.4

  pub bottom_over : (old rest target new : List (Node K V Z)) (b : Node K V Z) → IsFalling 0 most_levels old → old ≡ b ∷ rest → length target ≡ 0
      → new ≡ target ++ b ∷ [] → IsFalling 0 most_levels new
  bottom_over old rest target new b f e z i =
      let t = subst (IsFalling 0 most_levels) e f in
      subst (IsFalling 0 most_levels) (sym (i ∙ ap (λ s. s ++ b ∷ []) (nil_from_length target z))) (t.0, t.1, t.2, t.3, omega arith)

  -- the node, which begins and ends with a child
  pub record IsEven (n : Node K V Z) : Type 0 where
    pub same : length (children_of n) ≡ length (own_pairs n)
    pub some : 0 < length (children_of n)

  pub bottom_even : (old rest : List (Node K V Z)) (b : Node K V Z) → IsFalling 0 most_levels old → old ≡ b ∷ rest
      → length (own_pairs b) ≤ length (children_of b) → IsEven b
  bottom_even old rest b f e h =
      let t = subst (IsFalling 0 most_levels) e f in record { same = omega arith; some = omega arith }

  under_bottom : (h : ℕ) (target mid : List (Node K V Z)) (d c : Node K V Z) → h < most_levels → 0 < length (own_pairs d)
      → length (children_of d) + 1 ≡ length (own_pairs d) → IsParted h c (children_of d) → length target ≡ 0 → mid ≡ target ++ d ∷ [] → IsUnder c mid
  under_bottom h target mid d c l k e p z i = (
    p.level,
    p.child,
    subst (λ j. IsFalling j most_levels mid) p.above
        (subst (IsFalling h most_levels) (sym (i ∙ ap (λ s. s ++ d ∷ []) (nil_from_length target z)))
        (h, l, k, (omega arith, λ _. omega arith, p.others), omega arith)),
  )

  pub under_over_first : (old rest target mid : List (Node K V Z)) (b d c : Node K V Z) → IsFalling 0 most_levels old → old ≡ b ∷ rest → IsEven b
      → length target ≡ 0 → children_of b ≡ c ∷ children_of d → own_pairs d ≡ own_pairs b → mid ≡ target ++ d ∷ [] → IsUnder c mid
  under_over_first old rest target mid b d c f e v z i j k =
      let t = subst (IsFalling 0 most_levels) e f in
      let a = ap length i in
      let w = ap length j in
      under_bottom t.0 target mid d c t.1 (omega arith) (omega arith) (below_first t.0 (children_of b) (children_of d) c i t.3.2) z k

  pub under_over_last : (old rest target mid : List (Node K V Z)) (b d c : Node K V Z) → IsFalling 0 most_levels old → old ≡ b ∷ rest → IsEven b
      → length target ≡ 0 → children_of b ≡ children_of d ++ c ∷ [] → own_pairs d ≡ own_pairs b → mid ≡ target ++ d ∷ [] → IsUnder c mid
  under_over_last old rest target mid b d c f e v z i j k =
      let t = subst (IsFalling 0 most_levels) e f in
      let a = ap length i ∙ length-append (children_of d) (c ∷ []) in
      let w = ap length j in
      under_bottom t.0 target mid d c t.1 (omega arith) (omega arith) (below_last t.0 (children_of b) (children_of d) c i t.3.2) z k

  front_none : (s : List (Node K V Z)) → length s ≡ 0 → after_front s ≡ []
  front_none s z = ap after_front (nil_from_length s z)

  back_none : (s : List (Node K V Z)) → length s ≡ 0 → before_back s ≡ []
  back_none s z = ap before_back (nil_from_length s z)

  -- what goes over with its pairs, to the front
  pub filled_front : (back rest : List (Node K V Z)) (new : List (K × V)) (b : Node K V Z) → back ≡ b ∷ rest → new ≡ before_back_in b
      → new ++ before_back rest ≡ before_back back
  filled_front back rest new b e i = ap (λ zs. zs ++ before_back rest) i ∙ ap before_back (sym e)

  -- and to the back
  pub filled_back : (front rest : List (Node K V Z)) (new : List (K × V)) (b : Node K V Z) → front ≡ b ∷ rest → new ≡ after_front_in b
      → after_front rest ++ new ≡ after_front front
  filled_back front rest new b e i = ap (λ zs. after_front rest ++ zs) i ∙ ap after_front (sym e)

  pub front_over : (front new : List (Node K V Z)) (b : Node K V Z) → length front ≡ 0 → length (children_of b) < length (own_pairs b) → new ≡ front ++ b ∷ []
      → after_front new ≡ before_back_in b
  front_over front new b z h i =
      front_push front new b i ∙ ap (λ zs. after_front_in b ++ zs) (front_none front z) ∙ append-nil (after_front_in b) ∙ sym (over b h)

  pub back_over : (back new : List (Node K V Z)) (b : Node K V Z) → length back ≡ 0 → length (children_of b) < length (own_pairs b) → new ≡ back ++ b ∷ []
      → before_back new ≡ after_front_in b
  back_over back new b z h i = back_push back new b i ∙ ap (λ zs. zs ++ before_back_in b) (back_none back z) ∙ over b h

  pub front_parted : (front mid : List (Node K V Z)) (new : List (K × V)) (n d c : Node K V Z) → length front ≡ 0 → IsEven n
      → children_of n ≡ c ∷ children_of d → own_pairs d ≡ own_pairs n → mid ≡ front ++ d ∷ [] → new ≡ pairs_of c ++ after_front mid → new ≡ before_back_in n
  front_parted front mid new n d c z v i j k l =
      l ∙ ap (λ zs. pairs_of c ++ zs) (front_push front mid d k ∙ ap (λ zs. after_front_in d ++ zs) (front_none front z) ∙ append-nil (after_front_in d))
      ∙ sym (over_front n d c v.same i j)

  pub back_parted : (back mid : List (Node K V Z)) (new : List (K × V)) (n d c : Node K V Z) → length back ≡ 0 → IsEven n
      → children_of n ≡ children_of d ++ c ∷ [] → own_pairs d ≡ own_pairs n → mid ≡ back ++ d ∷ [] → new ≡ before_back mid ++ pairs_of c
      → new ≡ after_front_in n
  back_parted back mid new n d c z v i j k l =
      l ∙ ap (λ zs. zs ++ pairs_of c) (back_push back mid d k ∙ ap (λ zs. zs ++ before_back_in d) (back_none back z)) ∙ sym (over_back n d c v.same i j)

  -- ---- nodes that end with a child

  pub even_push : (s new : List (Node K V Z)) (b : Node K V Z) → new ≡ s ++ b ∷ [] → length (children_of b) ≡ length (own_pairs b) → AreEven s → AreEven new
  even_push s new b e l a = subst AreEven (sym e) (all_both (λ n. length (children_of n) ≡ length (own_pairs n)) s (b ∷ []) a (l, tt))

  -- the node on the top, and those below it
  pub even_pop : (old s : List (Node K V Z)) (b : Node K V Z) → old ≡ s ++ b ∷ [] → AreEven old → AreEven s × (length (children_of b) ≡ length (own_pairs b))
  even_pop old s b e a =
      let P : Node K V Z → Type 0 = λ n. length (children_of n) ≡ length (own_pairs n) in
      let f = subst AreEven e a in
      (all_front P s (b ∷ []) f, (all_back P s (b ∷ []) f).0)
