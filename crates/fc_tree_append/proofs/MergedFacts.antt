-- A list of pairs merged with items whose keys rise.
use Rattle.std.proofs.Common.{◌≡◌, ℕ, suc, ◌+◌, Bool, true, false, cond, List, [], ◌∷◌, ◌++◌, Option, Some, None, length, get_or}
use Rattle.std.proofs.Common.{refl, sym, ap, subst, ◌∙◌, arith}
use Rattle.std.proofs.Common.{append_assoc, append-nil, length-append}
use native.Mathlib.Numerals.{unary_clauses}
use Rattle.std.specs.Prelude.{Result, Ok, Err, is_ok, IsTrue, OnOk}
use Rattle.std.specs.Prelude.{unwrap_or}
use Rattle.std.specs.List.{AllByRecursion}
use Rattle.std.specs.List.Sorted.{IsSortedBy}
use Rattle.std.specs.Option.{option_map}
use Rattle.std.specs.Cmp.{IsTotalOrder}
use Rattle.std.specs.Ordering.{is_lt, is_eq, is_gt, ordering_reverse}
use Rattle.std.specs.declared.cmp.Ordering.{Ordering}
use Rattle.std.specs.declared.cmp.Ordering.TheVariants.{Less, Equal, Greater}
use Rattle.fc_base.specs.Ascending.{IsAscending}
use Rattle.fc_base.specs.OneKey.{put}
use Rattle.fc_base.specs.Parts.{below, above, at}
use Rattle.fc_base.specs.Viewed.{over_one}
use Rattle.fc_base.proofs.AscendingFacts.{all_map}
use Rattle.fc_base.proofs.AscendingFacts.{kept, left_out}
use Rattle.fc_base.proofs.Laws.{smaller_before, ascending_back}
use Rattle.fc_tree_node.proofs.Lists.{all_both}
use Rattle.fc_tree_append.specs.Rising.{IsHeldAfter, IsNotBelow, IsRising, IsStoppedAt, with_held}

-- What holds where a call was done, which was told.
pub told_ok : {X E : Type 0} {P : Type 0} (r : Result X E) (b : Bool) → b ≡ is_ok r → IsTrue b → OnOk r P → P
told_ok (Ok x) b e h p = p
told_ok (Err x) b e h p = absurd (let no = sym e ∙ h in cc)

-- A list that a loop goes over: one item more is done.
pub moved_on : {X : Type 0} (all done : List X) (x : X) (left rest : List X) → all ≡ done ++ left → left ≡ x ∷ rest → all ≡ (done ++ x ∷ []) ++ rest
moved_on all done x left rest is next = is ∙ ap (λ l. done ++ l) next ∙ sym (append_assoc done (x ∷ []) rest)

module _ {K V : Type 0} where
  -- The pair that is held stands between what is before and what is after,
  pub held_back : (front : List (K × V)) (held : Option (K × V)) (back : List (K × V)) → with_held front held [] ++ back ≡ with_held front held back
  held_back front None back = ap (λ l. l ++ back) (append-nil front)
  held_back front (Some p) back = append_assoc front (p ∷ []) back

  -- and counts with them.
  pub held_front : (front : List (K × V)) (held : Option (K × V)) (back : List (K × V))
      → length (with_held front held back) ≡ length front + length (with_held [] held back)
  held_front front None back = length-append front back
  held_front front (Some p) back = length-append front (p ∷ back)

  pub held_length : (held : Option (K × V)) (back : List (K × V)) → length (with_held [] held back) ≡ length (with_held [] held []) + length back
  held_length None back = omega arith
  held_length (Some p) back = omega arith

-- What a test tells of an order.
pub equal_if : (o : Ordering) (b : Bool) → b ≡ is_eq o → IsTrue b → o ≡ Equal
equal_if Less b e h = absurd (let no = sym e ∙ h in cc)
equal_if Equal b e h = refl
equal_if Greater b e h = absurd (let no = sym e ∙ h in cc)

pub less_left : (o : Ordering) (b : Bool) → b ≡ is_eq o → b ≡ false → is_gt o ≡ false → o ≡ Less
less_left Less b e h n = refl
less_left Equal b e h n = absurd (let no = sym e ∙ h in cc)
less_left Greater b e h n = absurd cc

-- Equal lists have equal first items.
pub head_of : {X : Type 0} (x y : X) (s t : List X) → x ∷ s ≡ y ∷ t → x ≡ y
head_of x y s t h = cc

module _ {K : Type 0} (cmp : K → K → Ordering) (total : IsTotalOrder cmp) where
  -- an order of two keys is that of a key and one equal to the other
  equal_right : (x y q : K) → cmp x q ≡ Equal → cmp y q ≡ cmp y x
  equal_right x y q e = total.antisymm y q ∙ ap ordering_reverse (sym (total.congr x q y e)) ∙ sym (total.antisymm y x)

  -- A key equal to that of the item before.
  pub after_equal : (h last k : K) → cmp h last ≡ Equal → is_gt (cmp last k) ≡ false → is_gt (cmp h k) ≡ false
  after_equal h last k same n = ap is_gt (total.congr h last k same) ∙ n

module _ {K V : Type 0} (cmp : K → K → Ordering) where
  -- ---- where a pair is put

  put_after : (x : K × V) (s : List (K × V)) (k : K) (v : V) → cmp x.0 k ≡ Less → put cmp (x ∷ s) k v ≡ x ∷ put cmp s k v
  put_after x s k v h =
      ap (λ o. cond (is_lt o) (x ∷ below cmp s k) (below cmp s k)
      ++ (unwrap_or (option_map (λ (e : K × V). e.0) (cond (is_eq o) (Some x) (at cmp s k))) k, v) ∷ cond (is_gt o) (x ∷ above cmp s k) (above cmp s k)) h

  none_at : (s : List (K × V)) (k : K) → AllByRecursion (λ e. cmp e.0 k ≡ Greater) s → at cmp s k ≡ None
  none_at [] k a = refl
  none_at (e ∷ s) k a = ap (λ o. cond (is_eq o) (Some e) (at cmp s k)) a.0 ∙ none_at s k a.1

  module _ (s : List (K × V)) (k : K) (v : V) (a : AllByRecursion (λ e. cmp e.0 k ≡ Greater) s) where
    none_below : below cmp s k ≡ []
    none_below = left_out (λ e. is_lt (cmp e.0 k)) s (all_map _ _ (λ e g. ap is_lt g) s a)

    all_above : above cmp s k ≡ s
    all_above = kept (λ e. is_gt (cmp e.0 k)) s (all_map _ _ (λ e g. ap is_gt g) s a)

    put_before : put cmp s k v ≡ (k, v) ∷ s
    put_before =
        ap (λ l. l ++ (unwrap_or (option_map (λ (e : K × V). e.0) (at cmp s k)) k, v) ∷ above cmp s k) none_below
        ∙ ap (λ l. (unwrap_or (option_map (λ (e : K × V). e.0) (at cmp s k)) k, v) ∷ l) all_above
        ∙ ap (λ o. (unwrap_or (option_map (λ (e : K × V). e.0) o) k, v) ∷ s) (none_at s k a)

    put_first : (p : K × V) → cmp p.0 k ≡ Equal → put cmp (p ∷ s) k v ≡ (p.0, v) ∷ s
    put_first p h =
        ap (λ o. cond (is_lt o) (p ∷ below cmp s k) (below cmp s k)
        ++ (unwrap_or (option_map (λ (e : K × V). e.0) (cond (is_eq o) (Some p) (at cmp s k))) k, v) ∷ cond (is_gt o) (p ∷ above cmp s k) (above cmp s k)) h
        ∙ ap (λ l. l ++ (p.0, v) ∷ above cmp s k) none_below
        ∙ ap (λ l. (p.0, v) ∷ l) all_above

  put_gap : (front back : List (K × V)) (k : K) (v : V) → AllByRecursion (λ e. cmp e.0 k ≡ Less) front → AllByRecursion (λ e. cmp e.0 k ≡ Greater) back
      → put cmp (front ++ back) k v ≡ front ++ (k, v) ∷ back
  put_gap [] back k v a b = put_before back k v b
  put_gap (x ∷ front) back k v a b = put_after x (front ++ back) k v a.0 ∙ ap (λ l. x ∷ l) (put_gap front back k v a.1 b)

  put_there : (front back : List (K × V)) (p : K × V) (k : K) (v : V) → AllByRecursion (λ e. cmp e.0 k ≡ Less) front → cmp p.0 k ≡ Equal
      → AllByRecursion (λ e. cmp e.0 k ≡ Greater) back → put cmp (front ++ p ∷ back) k v ≡ front ++ (p.0, v) ∷ back
  put_there [] back p k v a same b = put_first back k v b p same
  put_there (x ∷ front) back p k v a same b =
      put_after x (front ++ p ∷ back) k v a.0 ∙ ap (λ l. x ∷ l) (put_there front back p k v a.1 same b)

  -- ---- one step

  module _ (total : IsTotalOrder cmp) where
    -- what stands around a pair with an equal key
    less_before : (front back : List (K × V)) (p : K × V) (k : K) → IsAscending cmp (front ++ p ∷ back) → cmp p.0 k ≡ Equal
        → AllByRecursion (λ e. cmp e.0 k ≡ Less) front
    less_before front back p k a same =
        all_map _ _ (λ e l. equal_right cmp total p.0 e.0 k same ∙ l) front (smaller_before cmp front back p a)

    greater_after : (front back : List (K × V)) (p : K × V) (k : K) → IsAscending cmp (front ++ p ∷ back) → cmp p.0 k ≡ Equal
        → AllByRecursion (λ e. cmp e.0 k ≡ Greater) back
    greater_after front back p k a same =
        all_map _ _ (λ e l. over_one cmp total k e.0 (sym (total.congr p.0 k e.0 same) ∙ l)) back (ascending_back cmp front (p ∷ back) a).0

    -- The key of the pair that is held is equal.
    pub put_at_held : (front back : List (K × V)) (p : K × V) (k : K) (v : V) → IsAscending cmp (front ++ p ∷ back) → cmp p.0 k ≡ Equal
        → front ++ (p.0, v) ∷ back ≡ put cmp (front ++ p ∷ back) k v
    put_at_held front back p k v a same =
        sym (put_there front back p k v (less_before front back p k a same) same (greater_after front back p k a same))

    -- It is smaller, and so are all before it.
    pub all_less : (front back : List (K × V)) (p : K × V) (k : K) → IsAscending cmp (front ++ p ∷ back) → cmp p.0 k ≡ Less
        → AllByRecursion (λ e. cmp e.0 k ≡ Less) (front ++ p ∷ [])
    all_less front back p k a less =
        all_both _ front (p ∷ []) (all_map _ _ (λ e l. total.trans e.0 p.0 k l less) front (smaller_before cmp front back p a)) (less, tt)

    -- The next pair has an equal key, once those with smaller ones went over.
    pub put_at_next : (s front u back : List (K × V)) (p : K × V) (k : K) (v : V) → IsAscending cmp s → front ++ u ≡ s
        → AllByRecursion (λ e. cmp e.0 k ≡ Less) front → IsStoppedAt cmp u k true → u ≡ p ∷ back → front ++ (p.0, v) ∷ back ≡ put cmp s k v
    put_at_next s front u back p k v a e less stopped f =
        let same : cmp p.0 k ≡ Equal = ap (λ z. cmp z.0 k) (head_of p stopped.0 back stopped.1 (sym f ∙ stopped.2)) ∙ stopped.3 in
        let is : front ++ p ∷ back ≡ s = ap (λ z. front ++ z) (sym f) ∙ e in
        put_at_held front back p k v (subst (IsAscending cmp) (sym is) a) same ∙ ap (λ z. put cmp z k v) is

    -- All others have greater ones.
    pub put_between : (s front u : List (K × V)) (k : K) (v : V) → front ++ u ≡ s → AllByRecursion (λ e. cmp e.0 k ≡ Less) front
        → IsStoppedAt cmp u k false → front ++ (k, v) ∷ u ≡ put cmp s k v
    put_between s front u k v e less greater = sym (put_gap front u k v less greater) ∙ ap (λ z. put cmp z k v) e

    -- The next pair has a greater key, and so have all others.
    pub all_greater : (u rest : List (K × V)) (p : K × V) (k : K) → IsAscending cmp u → u ≡ p ∷ rest → cmp p.0 k ≡ Greater
        → AllByRecursion (λ e. cmp e.0 k ≡ Greater) u
    all_greater u rest p k a e greater =
        let b = subst (IsAscending cmp) e a in
        let below : cmp k p.0 ≡ Less = total.antisymm k p.0 ∙ ap ordering_reverse greater in
        subst (AllByRecursion (λ x. cmp x.0 k ≡ Greater)) (sym e)
        (greater, all_map _ _ (λ x l. over_one cmp total k x.0 (total.trans k p.0 x.0 below l)) rest b.0)

    -- ---- what rises

    pub rising_from : (items : List (K × V)) → IsSortedBy (λ (a b : K × V). is_lt (cmp a.0 b.0)) items → IsRising cmp items
    rising_from [] h = tt
    rising_from (e ∷ []) h = (tt, tt)
    rising_from (e ∷ x ∷ s) h =
        let first : is_lt (cmp x.0 e.0) ≡ false = h 0 e (omega arith) (omega arith) in
        (not_greater (cmp x.0 e.0) refl first, rising_from (x ∷ s) (λ k d low high. later k d (h (suc k) d (omega arith) (omega arith))))
      where
        not_greater : (r : Ordering) → cmp x.0 e.0 ≡ r → is_lt r ≡ false → is_gt (cmp e.0 x.0) ≡ false
        not_greater Less i n = absurd cc
        not_greater Equal i n = ap is_gt (total.antisymm e.0 x.0 ∙ ap ordering_reverse i)
        not_greater Greater i n = ap is_gt (total.antisymm e.0 x.0 ∙ ap ordering_reverse i)

        later : (k : ℕ) (d : K × V) → is_lt (cmp (get_or (e ∷ x ∷ s) (suc k + 1) d).0 (get_or (e ∷ x ∷ s) (suc k) d).0) ≡ false
            → is_lt (cmp (get_or (x ∷ s) (k + 1) d).0 (get_or (x ∷ s) k d).0) ≡ false
        later k d h =
            let e : suc k ≡ k + 1 = omega arith in
            subst (λ n. is_lt (cmp (get_or (x ∷ s) n d).0 (get_or (x ∷ s) k d).0) ≡ false) e (simp unary_clauses at h)

    -- ---- a loop over items that rise

    -- a key equal to that of an item has the same next ones above it
    next_above : (h last : K) (s : List (K × V)) → cmp h last ≡ Equal → IsNotBelow cmp last s → IsNotBelow cmp h s
    next_above h last [] same n = tt
    next_above h last (e ∷ s) same n = after_equal cmp total h last e.0 same n

    -- The items that are left rise, from the pair that is held on; with none held there is no pair before them.
    abbrev pub IsBefore : List (K × V) → Option (K × V) → List (K × V) → Type 0
    IsBefore front None rest = (front ≡ []) × IsRising cmp rest
    IsBefore front (Some p) rest = IsNotBelow cmp p.0 rest × IsRising cmp rest

    pub before_rising : (front rest : List (K × V)) (held : Option (K × V)) → IsBefore front held rest → IsRising cmp rest
    before_rising front rest None a = a.1
    before_rising front rest (Some p) a = a.1

    pub before_first : (front rest more : List (K × V)) (held : Option (K × V)) (e : K × V) → IsBefore front held rest → rest ≡ e ∷ more
        → IsHeldAfter cmp front held e.0
    before_first front rest more None e a f = a.0
    before_first front rest more (Some p) e a f = subst (IsNotBelow cmp p.0) f a.0

    pub before_next : (front now rest more : List (K × V)) (held : Option (K × V)) (e p : K × V) → IsBefore front held rest → rest ≡ e ∷ more
        → cmp p.0 e.0 ≡ Equal → IsBefore now (Some p) more
    before_next front now rest more held e p a f same =
        let rising = subst (IsRising cmp) f (before_rising front rest held a) in
        (next_above p.0 e.0 more same rising.0, rising.1)
