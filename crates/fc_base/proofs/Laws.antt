-- The laws of lists of pairs: what stands at each key once a pair is put or cut, how many pairs there are then, the
-- first and the last pair, and the part between two bounds.
-- A caller names one on a function, as `#[tactic(auto, using(fc_base::proofs::Laws::value_at_put))]`, or cites it in an answer.
use Rattle.std.proofs.Common.{◌≡◌, suc, ◌+◌, ◌-◌, Bool, true, false, cond, List, [], ◌∷◌, ◌++◌, length, take, drop, Option, Some, None, IsSome, IsTrue, All}
use Rattle.std.proofs.Common.{refl, sym, ap, ◌∙◌, subst, arith, append-nil, length-append, length-take-le, take-append-drop}
use Rattle.std.specs.Prelude.{◌&&◌, unwrap_or, ⊤}
use Rattle.std.specs.List.{AllByRecursion, filter, find}
use Rattle.std.specs.Option.{option_map, option_or, option_to_list}
use Rattle.std.specs.Cmp.{IsTotalOrder}
use Rattle.std.specs.Ordering.{is_lt, is_le, is_eq, is_gt, is_ge, ordering_reverse}
use Rattle.std.specs.declared.cmp.Ordering.{Ordering}
use Rattle.std.specs.declared.cmp.Ordering.TheVariants.{Less, Equal, Greater}
use Rattle.std.specs.declared.ops.Bound.{Bound}
use Rattle.std.specs.declared.ops.Bound.TheVariants.{Included, Excluded, Unbounded}
use Rattle.std.proofs.lemmas.Cmp.{tied_itself}
use Rattle.std.proofs.lemmas.List.Elements.{filter-append, filter_passes, All-from_recursion, All-weaker}
use Rattle.std.proofs.lemmas.List.Folds.{find-append}
use Rattle.std.proofs.lemmas.List.Sums.{length-filter, count_by-le-length}
use Rattle.fc_base.specs.Ascending.{IsAscending}
use Rattle.fc_base.specs.OneKey.{put, put_by, cut}
use Rattle.fc_base.specs.Parts.{below, above, at, value_at}
use Rattle.fc_base.specs.Query.{IsQueryOrder}
use Rattle.fc_base.specs.Viewed.{over_one, own_order}
use Rattle.fc_base.specs.Ranges.{starts, stops, is_range, within}
use Rattle.fc_base.proofs.Within.{between_tests, not_after}
use Rattle.fc_base.proofs.AscendingFacts.{under_one, all_map, all_below, all_above, at_key, asc_filter, asc_cut, asc_put, is_equal, kept, left_out}

-- filters and searches by a test
module _ {X : Type 0} (p : X → Bool) where
  not_found : (s : List X) → AllByRecursion (λ x. p x ≡ false) s → find p s ≡ None
  not_found [] a = refl
  not_found (x ∷ s) a = rw a.0 (not_found s a.1)

  found_in : (q : X → Bool) (b : Bool) → ((x : X) → p x ≡ true → q x ≡ b) → (s : List X) → find p (filter q s) ≡ cond b (find p s) None
  found_in q b same [] = elim b as (λ c. ◌≡◌ {A = Option X} None (cond c None None)) [ true ↦ refl | false ↦ refl ]
  found_in q b same (x ∷ s) = go (p x) (q x) refl (same x) (found_in q b same s)
    where
      go : (u v : Bool) → p x ≡ u → (u ≡ true → v ≡ b) → find p (filter q s) ≡ cond b (find p s) None
          → find p (cond v (x ∷ filter q s) (filter q s)) ≡ cond b (cond u (Some x) (find p s)) None
      go true true e h i = rw (e, sym (h refl)) refl
      go true false e h i = i ∙ rw (sym (h refl)) refl
      go false true e h i = rw e i
      go false false e h i = i

module _ {K : Type 0} (cmp : K → K → Ordering) where
  -- Two keys that are not equal are not so the other way round.
  apart : (j k : K) → IsTotalOrder cmp → ¬ (cmp j k ≡ Equal) → ¬ (cmp k j ≡ Equal)
  apart j k total other e = other (total.antisymm j k ∙ ap ordering_reverse e)

  -- Where a key is not before a range, no greater key is.
  starts_on : IsTotalOrder cmp → (lo : Bound K) (x y : K) → cmp x y ≡ Less → starts cmp lo x ≡ true → starts cmp lo y ≡ true
  starts_on total Unbounded x y l h = refl
  starts_on total (Included a) x y l h = go (cmp x a) refl h
    where
      go : (r : Ordering) → cmp x a ≡ r → is_ge r ≡ true → is_ge (cmp y a) ≡ true
      go Less e h = absurd cc
      go Equal e h = ap is_ge (over_one cmp total a y (sym (total.congr x a y e) ∙ l))
      go Greater e h = ap is_ge (over_one cmp total a y (total.trans a x y (under_one cmp total a x e) l))
  starts_on total (Excluded a) x y l h = go (cmp x a) refl h
    where
      go : (r : Ordering) → cmp x a ≡ r → is_gt r ≡ true → is_gt (cmp y a) ≡ true
      go Less e h = absurd cc
      go Equal e h = absurd cc
      go Greater e h = ap is_gt (over_one cmp total a y (total.trans a x y (under_one cmp total a x e) l))

  -- Where a key is after a range, each greater key is.
  stops_on : IsTotalOrder cmp → (hi : Bound K) (x y : K) → cmp x y ≡ Less → stops cmp hi x ≡ false → stops cmp hi y ≡ false
  stops_on total Unbounded x y l h = absurd cc
  stops_on total (Included b) x y l h = go (cmp x b) refl h
    where
      go : (r : Ordering) → cmp x b ≡ r → is_le r ≡ false → is_le (cmp y b) ≡ false
      go Less e h = absurd cc
      go Equal e h = absurd cc
      go Greater e h = ap is_le (over_one cmp total b y (total.trans b x y (under_one cmp total b x e) l))
  stops_on total (Excluded b) x y l h = go (cmp x b) refl h
    where
      go : (r : Ordering) → cmp x b ≡ r → is_lt r ≡ false → is_lt (cmp y b) ≡ false
      go Less e h = absurd cc
      go Equal e h = ap is_lt (over_one cmp total b y (sym (total.congr x b y e) ∙ l))
      go Greater e h = ap is_lt (over_one cmp total b y (total.trans b x y (under_one cmp total b x e) l))

-- each key stands to a query as to a key that is equal to it
pub alike_query : {K Q : Type 0} (cmp : K → K → Ordering) (order : K → Q → Ordering) (k : K) (q : Q) → IsQueryOrder cmp order → order k q ≡ Equal
    → ◌≡◌ {A = K → Ordering} (λ x. order x q) (λ x. cmp x k)
alike_query cmp order k q fits equal = λ i x. fits.same q k x equal i

module _ {K Q V : Type 0} (cmp : K → K → Ordering) (order : K → Q → Ordering) where
  -- At a query stands the pair that stands at a key equal to it.
  pub at_query : (s : List (K × V)) (k : K) (q : Q) → IsQueryOrder cmp order → order k q ≡ Equal → at order s q ≡ at cmp s k
  at_query s k q fits equal = ap (λ (f : K → Ordering). at (λ x (u : ⊤). f x) s tt) (alike_query cmp order k q fits equal)

  -- At a query stands the value that stands at a key equal to it.
  pub value_at_query : (s : List (K × V)) (k : K) (q : Q) → IsQueryOrder cmp order → order k q ≡ Equal → value_at order s q ≡ value_at cmp s k
  value_at_query s k q fits equal = ap (option_map (λ e. e.1)) (at_query s k q fits equal)

  -- A value is put at a query as at a key equal to it.
  pub put_by_query : (s : List (K × V)) (k : K) (v : V) (q : Q) → IsQueryOrder cmp order → order k q ≡ Equal → put_by order s q k v ≡ put cmp s k v
  put_by_query s k v q fits equal = ap (λ (f : K → Ordering). put_by (λ x (u : ⊤). f x) s tt k v) (alike_query cmp order k q fits equal)

  -- A cut at a query takes out what a cut at a key equal to it takes out.
  pub cut_query : (s : List (K × V)) (k : K) (q : Q) → IsQueryOrder cmp order → order k q ≡ Equal → cut order s q ≡ cut cmp s k
  cut_query s k q fits equal = ap (λ (f : K → Ordering). cut (λ x (u : ⊤). f x) s tt) (alike_query cmp order k q fits equal)

module _ {K Q V : Type 0} (cmp : K → Q → Ordering) where
  -- a test of how the keys compare to k
  passes : (p : Ordering → Bool) (r : Ordering) (k : Q) (s : List (K × V)) → AllByRecursion (λ e. cmp e.0 k ≡ r) s → AllByRecursion (λ e. p (cmp e.0 k) ≡ p r) s
  passes p r k s a = all_map _ _ (λ e h. ap p h) s a

  -- nothing stands at k below it or above it
  over_below : (s t : List (K × V)) (k : Q) → at cmp (below cmp s k ++ t) k ≡ at cmp t k
  over_below s t k = find-append _ (below cmp s k) t
      ∙ ap (λ o. option_or o (at cmp t k)) (not_found _ (below cmp s k) (passes is_eq Less k _ (all_below cmp s k)))

  -- Nothing stands at a key whose pair was cut.
  pub at_cut : (s : List (K × V)) (k : Q) → at cmp (cut cmp s k) k ≡ None
  at_cut s k = over_below s (above cmp s k) k ∙ not_found _ (above cmp s k) (passes is_eq Greater k _ (all_above cmp s k))

module _ {K Q V : Type 0} (cmp : K → K → Ordering) (order : K → Q → Ordering) where
  -- what stands at a query that k is not equal to is where it was, whatever stands between what is below and above k
  stays : (s between : List (K × V)) (k : K) (q : Q) → IsTotalOrder cmp → IsQueryOrder cmp order → ¬ (order k q ≡ Equal) → at order between q ≡ None
      → at order (below cmp s k ++ (between ++ above cmp s k)) q ≡ at order s q
  stays s between k q total fits other none =
      find-append test (below cmp s k) (between ++ above cmp s k)
      ∙ ap (option_or (at order (below cmp s k) q)) (find-append test between (above cmp s k) ∙ ap (λ o. option_or o (at order (above cmp s k) q)) none)
      ∙ go (order k q) refl
    where
      test : K × V → Bool
      test e = is_eq (order e.0 q)

      found : (p : Ordering → Bool) (r : Ordering) → order k q ≡ r → find test (filter (λ e. p (cmp e.0 k)) s)
          ≡ cond (p (ordering_reverse r)) (at order s q) None
      found p r e = found_in test (λ x. p (cmp x.0 k)) (p (ordering_reverse r))
          (λ x h. ap p (total.antisymm x.0 k ∙ ap ordering_reverse (sym (fits.same q x.0 k (is_equal (order x.0 q) h)) ∙ e))) s

      no_more : (o : Option (K × V)) → option_or o None ≡ o
      no_more None = refl
      no_more (Some x) = refl

      go : (r : Ordering) → order k q ≡ r → option_or (at order (below cmp s k) q) (at order (above cmp s k) q) ≡ at order s q
      go Less e = ap (λ o. option_or o (at order (above cmp s k) q)) (found is_lt Less e) ∙ found is_gt Less e
      go Equal e = absurd (other e)
      go Greater e = ap (option_or (at order (below cmp s k) q)) (found is_gt Greater e) ∙ no_more (at order (below cmp s k) q) ∙ found is_lt Greater e

  -- The pair at a query stays where one is put at a key that is not equal to it.
  pub at_put_other_query : (s : List (K × V)) (k : K) (v : V) (q : Q) → IsTotalOrder cmp → IsQueryOrder cmp order → ¬ (order k q ≡ Equal)
      → at order (put cmp s k v) q ≡ at order s q
  at_put_other_query s k v q total fits other = stays s (x ∷ []) k q total fits other (none (order x.0 q) refl)
    where
      x : K × V
      x = (unwrap_or (option_map (λ (e : K × V). e.0) (at cmp s k)) k, v)

      none : (r : Ordering) → order x.0 q ≡ r → cond (is_eq r) (Some x) None ≡ None
      none Less e = refl
      none Equal e = absurd (other (fits.same q x.0 k e ∙ total.antisymm k x.0 ∙ ap ordering_reverse (at_key cmp total k s)))
      none Greater e = refl

  -- The value at a query stays where a pair is put at a key that is not equal to it.
  pub value_at_put_other_query : (s : List (K × V)) (k : K) (v : V) (q : Q) → IsTotalOrder cmp → IsQueryOrder cmp order → ¬ (order k q ≡ Equal)
      → value_at order (put cmp s k v) q ≡ value_at order s q
  value_at_put_other_query s k v q total fits other = ap (option_map (λ e. e.1)) (at_put_other_query s k v q total fits other)

module _ {K V : Type 0} (cmp : K → K → Ordering) where
  -- At equal keys the same pair stands.
  pub at_equal : (s : List (K × V)) (k j : K) → IsTotalOrder cmp → cmp j k ≡ Equal → at cmp s j ≡ at cmp s k
  at_equal s k j total same = sym (at_query cmp cmp s j k (own_order total) same)

  -- At equal keys the same value stands.
  pub value_at_equal : (s : List (K × V)) (k j : K) → IsTotalOrder cmp → cmp j k ≡ Equal → value_at cmp s j ≡ value_at cmp s k
  value_at_equal s k j total same = ap (option_map (λ e. e.1)) (at_equal s k j total same)

  -- A cut at an equal key leaves the same pairs.
  pub cut_equal : (s : List (K × V)) (k j : K) → IsTotalOrder cmp → cmp j k ≡ Equal → cut cmp s j ≡ cut cmp s k
  cut_equal s k j total same = sym (cut_query cmp cmp s j k (own_order total) same)

  -- What was put at a key stands there, with the equal key that was there before, if there was one.
  pub at_put : (s : List (K × V)) (k : K) (v : V) → IsTotalOrder cmp → at cmp (put cmp s k v) k ≡ Some (unwrap_or (option_map (λ e. e.0) (at cmp s k)) k, v)
  at_put s k v total =
      let x : K × V = (unwrap_or (option_map (λ (e : K × V). e.0) (at cmp s k)) k, v) in
      over_below cmp s (x ∷ above cmp s k) k ∙ ap (λ r. cond (is_eq r) (Some x) (at cmp (above cmp s k) k)) (at_key cmp total k s)

  -- The value that was put at a key stands there.
  pub value_at_put : (s : List (K × V)) (k : K) (v : V) → IsTotalOrder cmp → value_at cmp (put cmp s k v) k ≡ Some v
  value_at_put s k v total = ap (option_map (λ e. e.1)) (at_put s k v total)

  -- The value that was put at a key stands at each equal key.
  pub value_at_put_equal : (s : List (K × V)) (k : K) (v : V) (j : K) → IsTotalOrder cmp → cmp j k ≡ Equal → value_at cmp (put cmp s k v) j ≡ Some v
  value_at_put_equal s k v j total same = value_at_equal (put cmp s k v) k j total same ∙ value_at_put s k v total

  -- The pairs at other keys stay where one is put.
  pub at_put_other : (s : List (K × V)) (k : K) (v : V) (j : K) → IsTotalOrder cmp → ¬ (cmp j k ≡ Equal) → at cmp (put cmp s k v) j ≡ at cmp s j
  at_put_other s k v j total other = at_put_other_query cmp cmp s k v j total (own_order total) (apart cmp j k total other)

  -- The values at other keys stay where one is put.
  pub value_at_put_other : (s : List (K × V)) (k : K) (v : V) (j : K) → IsTotalOrder cmp → ¬ (cmp j k ≡ Equal)
      → value_at cmp (put cmp s k v) j ≡ value_at cmp s j
  value_at_put_other s k v j total other = ap (option_map (λ e. e.1)) (at_put_other s k v j total other)

  -- The pairs at other keys stay where one is cut.
  pub at_cut_other : (s : List (K × V)) (k j : K) → IsTotalOrder cmp → ¬ (cmp j k ≡ Equal) → at cmp (cut cmp s k) j ≡ at cmp s j
  at_cut_other s k j total other = stays cmp cmp s [] k j total (own_order total) (apart cmp j k total other) refl

  -- The values at other keys stay where a pair is cut.
  pub value_at_cut_other : (s : List (K × V)) (k j : K) → IsTotalOrder cmp → ¬ (cmp j k ≡ Equal) → value_at cmp (cut cmp s k) j ≡ value_at cmp s j
  value_at_cut_other s k j total other = ap (option_map (λ e. e.1)) (at_cut_other s k j total other)

  -- A list in which a pair is put is ascending.
  pub ascending_put : (s : List (K × V)) (k : K) (v : V) → IsTotalOrder cmp → IsAscending cmp s → IsAscending cmp (put cmp s k v)
  ascending_put s k v total a = asc_put cmp total s a k (unwrap_or (option_map (λ (e : K × V). e.0) (at cmp s k)) k, v) (at_key cmp total k s)

  -- A list from which a pair is cut is ascending.
  pub ascending_cut : (s : List (K × V)) (k : K) → IsTotalOrder cmp → IsAscending cmp s → IsAscending cmp (cut cmp s k)
  ascending_cut s k total a = asc_cut cmp total s a k

  -- what stands after a pair whose key is not below k is above k
  later_above : (e : K × V) (s : List (K × V)) (k : K) → IsTotalOrder cmp → IsAscending cmp (e ∷ s) → (r : Ordering) → cmp e.0 k ≡ r → is_lt r ≡ false
      → AllByRecursion (λ x. cmp x.0 k ≡ Greater) s
  later_above e s k total a Less h n = absurd cc
  later_above e s k total a Equal h n = all_map _ _ (λ x l. over_one cmp total k x.0 (sym (total.congr e.0 k x.0 h) ∙ l)) s a.0
  later_above e s k total a Greater h n = all_map _ _ (λ x l. over_one cmp total k x.0 (total.trans k e.0 x.0 (under_one cmp total k e.0 h) l)) s a.0

  -- An ascending list is what is below a key, the pair at it, if there is one, and what is above it.
  pub parts_joined : (s : List (K × V)) (k : K) → IsTotalOrder cmp → IsAscending cmp s → below cmp s k ++ (option_to_list (at cmp s k) ++ above cmp s k) ≡ s
  parts_joined [] k total a = refl
  parts_joined (e ∷ s) k total a = go (cmp e.0 k) refl (parts_joined s k total a.1)
    where
      later : (r : Ordering) → cmp e.0 k ≡ r → is_lt r ≡ false → (below cmp s k ≡ []) × (above cmp s k ≡ s) × (at cmp s k ≡ None)
      later r h n =
          let g = later_above e s k total a r h n in
          (left_out _ s (passes cmp is_lt Greater k s g), kept _ s (passes cmp is_gt Greater k s g), not_found _ s (passes cmp is_eq Greater k s g))

      go : (r : Ordering) → cmp e.0 k ≡ r → below cmp s k ++ (option_to_list (at cmp s k) ++ above cmp s k) ≡ s
          → cond (is_lt r) (e ∷ below cmp s k) (below cmp s k) ++ (option_to_list (cond (is_eq r) (Some e) (at cmp s k))
          ++ cond (is_gt r) (e ∷ above cmp s k) (above cmp s k)) ≡ e ∷ s
      go Less h i = ap (λ zs. e ∷ zs) i
      go Equal h i = let l = later Equal h refl in rw (l.0, l.1) refl
      go Greater h i = let l = later Greater h refl in rw (l.0, l.1, l.2) refl

  -- Where no pair stands at a key, cutting it changes nothing.
  pub cut_absent : (s : List (K × V)) (k : K) → IsTotalOrder cmp → IsAscending cmp s → at cmp s k ≡ None → cut cmp s k ≡ s
  cut_absent s k total a none = ap (λ o. below cmp s k ++ (option_to_list o ++ above cmp s k)) (sym none) ∙ parts_joined s k total a

  -- A pair that was put is cut like the one that was there before.
  pub cut_put : (s : List (K × V)) (k : K) (v : V) → IsTotalOrder cmp → cut cmp (put cmp s k v) k ≡ cut cmp s k
  cut_put s k v total = rw (lower, upper) refl
    where
      x : K × V
      x = (unwrap_or (option_map (λ (e : K × V). e.0) (at cmp s k)) k, v)

      same : (q : Ordering → Bool) → q Equal ≡ false → filter (λ e. q (cmp e.0 k)) (put cmp s k v) ≡ filter (λ e. q (cmp e.0 k)) (below cmp s k)
          ++ filter (λ e. q (cmp e.0 k)) (above cmp s k)
      same q away = filter-append _ (below cmp s k) (x ∷ above cmp s k) ∙ rw (at_key cmp total k s, away) refl

      lower : below cmp (put cmp s k v) k ≡ below cmp s k
      lower = same is_lt refl ∙ rw (kept _ _ (passes cmp is_lt Less k _ (all_below cmp s k)), left_out _ _ (passes cmp is_lt Greater k _ (all_above cmp s k)))
          (append-nil (below cmp s k))

      upper : above cmp (put cmp s k v) k ≡ above cmp s k
      upper = same is_gt refl ∙ rw (left_out _ _ (passes cmp is_gt Less k _ (all_below cmp s k)), kept _ _ (passes cmp is_gt Greater k _ (all_above cmp s k)))
          refl

  -- A new pair that was put and is cut again leaves the list as it was.
  pub cut_put_new : (s : List (K × V)) (k : K) (v : V) → IsTotalOrder cmp → IsAscending cmp s → at cmp s k ≡ None → cut cmp (put cmp s k v) k ≡ s
  cut_put_new s k v total a none = cut_put s k v total ∙ cut_absent s k total a none

  -- A new pair that was put and is cut at an equal key leaves the list as it was.
  pub cut_put_equal : (s : List (K × V)) (k : K) (v : V) (j : K) → IsTotalOrder cmp → IsAscending cmp s → cmp j k ≡ Equal → at cmp s k ≡ None
      → cut cmp (put cmp s k v) j ≡ s
  cut_put_equal s k v j total a same none = cut_equal (put cmp s k v) k j total same ∙ cut_put_new s k v total a none

  -- how many pairs a cut and a put leave
  length_cut : (s : List (K × V)) (k : K) → IsTotalOrder cmp → IsAscending cmp s → length s ≡ length (cut cmp s k) + length (option_to_list (at cmp s k))
  length_cut s k total a =
      let e = ap length (sym (parts_joined s k total a)) ∙ length-append (below cmp s k) (option_to_list (at cmp s k) ++ above cmp s k) in
      omega (arith, e, length-append (option_to_list (at cmp s k)) (above cmp s k), length-append (below cmp s k) (above cmp s k))

  length_put : (s : List (K × V)) (k : K) (v : V) → length (put cmp s k v) ≡ length (cut cmp s k) + 1
  length_put s k v =
      let x : K × V = (unwrap_or (option_map (λ (e : K × V). e.0) (at cmp s k)) k, v) in
      omega (arith, length-append (below cmp s k) (x ∷ above cmp s k), length-append (below cmp s k) (above cmp s k))

  one : (o : Option (K × V)) → IsSome o → length (option_to_list o) ≡ 1
  one None h = absurd cc
  one (Some x) h = refl

  -- A cut takes one pair off where an equal key is there.
  pub length_cut_there : (s : List (K × V)) (k : K) → IsTotalOrder cmp → IsAscending cmp s → IsSome (at cmp s k) → length (cut cmp s k) + 1 ≡ length s
  length_cut_there s k total a some = omega (arith, length_cut s k total a, one (at cmp s k) some)

  -- A cut keeps the length where no equal key is there.
  pub length_cut_absent : (s : List (K × V)) (k : K) → IsTotalOrder cmp → IsAscending cmp s → at cmp s k ≡ None → length (cut cmp s k) ≡ length s
  length_cut_absent s k total a none = ap length (cut_absent s k total a none)

  -- A put keeps the length where an equal key is there.
  pub length_put_there : (s : List (K × V)) (k : K) (v : V) → IsTotalOrder cmp → IsAscending cmp s → IsSome (at cmp s k) → length (put cmp s k v) ≡ length s
  length_put_there s k v total a some = length_put s k v ∙ length_cut_there s k total a some

  -- A put adds one pair where no equal key is there.
  pub length_put_new : (s : List (K × V)) (k : K) (v : V) → IsTotalOrder cmp → IsAscending cmp s → at cmp s k ≡ None → length (put cmp s k v) ≡ length s + 1
  length_put_new s k v total a none = length_put s k v ∙ ap (λ n. n + 1) (length_cut_absent s k total a none)

  -- what holds of all pairs of two lists joined
  both_parts : (P : K × V → Type 0) (s t : List (K × V)) → AllByRecursion P (s ++ t) → AllByRecursion P s × AllByRecursion P t
  both_parts P [] t a = (tt, a)
  both_parts P (e ∷ s) t a = let i = both_parts P s t a.1 in ((a.0, i.0), i.1)

  -- The keys before a pair of an ascending list are below its own.
  pub smaller_before : (front back : List (K × V)) (e : K × V) → IsAscending cmp (front ++ e ∷ back) → AllByRecursion (λ x. cmp x.0 e.0 ≡ Less) front
  smaller_before [] back e a = tt
  smaller_before (x ∷ front) back e a = ((both_parts _ front (e ∷ back) a.0).1.0, smaller_before front back e a.1)

  -- The front of an ascending list is ascending.
  pub ascending_front : (front back : List (K × V)) → IsAscending cmp (front ++ back) → IsAscending cmp front
  ascending_front [] back a = tt
  ascending_front (e ∷ front) back a = ((both_parts _ front back a.0).0, ascending_front front back a.1)

  -- The back of an ascending list is ascending.
  pub ascending_back : (front back : List (K × V)) → IsAscending cmp (front ++ back) → IsAscending cmp back
  ascending_back [] back a = a
  ascending_back (e ∷ front) back a = ascending_back front back a.1

  -- what stands around a pair of an ascending list
  before : (s front back : List (K × V)) (k : K) (v : V) → IsAscending cmp s → s ≡ front ++ (k, v) ∷ back → AllByRecursion (λ x. cmp x.0 k ≡ Less) front
  before s front back k v a e = smaller_before front back (k, v) (subst (IsAscending cmp) e a)

  after : (s front back : List (K × V)) (k : K) (v : V) → IsTotalOrder cmp → IsAscending cmp s → s ≡ front ++ (k, v) ∷ back
      → AllByRecursion (λ x. cmp x.0 k ≡ Greater) back
  after s front back k v total a e = later_above (k, v) back k total (ascending_back front ((k, v) ∷ back) (subst (IsAscending cmp) e a)) Equal
      (tied_itself total k) refl

  -- At the key of a pair of an ascending list stands that pair.
  pub at_between : (s front back : List (K × V)) (k : K) (v : V) → IsTotalOrder cmp → IsAscending cmp s → s ≡ front ++ (k, v) ∷ back → at cmp s k ≡ Some (k, v)
  at_between s front back k v total a e =
      ap (λ t. at cmp t k) e ∙ find-append _ front ((k, v) ∷ back) ∙ rw
      (not_found _ front (passes cmp is_eq Less k _ (before s front back k v a e)), tied_itself total k) refl

  -- A cut at the key of a pair of an ascending list leaves what stands around that pair.
  pub cut_between : (s front back : List (K × V)) (k : K) (v : V) → IsTotalOrder cmp → IsAscending cmp s → s ≡ front ++ (k, v) ∷ back
      → cut cmp s k ≡ front ++ back
  cut_between s front back k v total a e = ap (λ t. cut cmp t k) e ∙ rw (lower, upper) refl
    where
      less : AllByRecursion (λ x. cmp x.0 k ≡ Less) front
      less = before s front back k v a e

      more : AllByRecursion (λ x. cmp x.0 k ≡ Greater) back
      more = after s front back k v total a e

      lower : below cmp (front ++ (k, v) ∷ back) k ≡ front
      lower = filter-append _ front ((k, v) ∷ back) ∙ rw (
        tied_itself total k,
        kept _ _ (passes cmp is_lt Less k _ less),
        left_out _ _ (passes cmp is_lt Greater k _ more),
      ) (append-nil front)

      upper : above cmp (front ++ (k, v) ∷ back) k ≡ back
      upper = filter-append _ front ((k, v) ∷ back) ∙ rw (
        tied_itself total k,
        left_out _ _ (passes cmp is_gt Less k _ less),
        kept _ _ (passes cmp is_gt Greater k _ more),
      ) refl

  -- The keys after the first are above it.
  pub first_is_least : (s rest : List (K × V)) (k : K) (v : V) → IsAscending cmp s → s ≡ (k, v) ∷ rest → All (λ e. cmp k e.0 ≡ Less) rest
  first_is_least s rest k v a e = All-from_recursion _ rest (subst (IsAscending cmp) e a).0

  -- The keys before the last are below it.
  pub last_is_greatest : (s front : List (K × V)) (k : K) (v : V) → IsAscending cmp s → s ≡ front ++ (k, v) ∷ [] → All (λ e. cmp e.0 k ≡ Less) front
  last_is_greatest s front k v a e = All-from_recursion _ front (smaller_before front [] (k, v) (subst (IsAscending cmp) e a))

  -- What stands after the first pair is ascending.
  pub ascending_rest : (s rest : List (K × V)) (e : K × V) → IsAscending cmp s → s ≡ e ∷ rest → IsAscending cmp rest
  ascending_rest s rest e a is = (subst (IsAscending cmp) is a).1

  -- What stands before the last pair is ascending.
  pub ascending_lead : (s front : List (K × V)) (e : K × V) → IsAscending cmp s → s ≡ front ++ e ∷ [] → IsAscending cmp front
  ascending_lead s front e a is = ascending_front front (e ∷ []) (subst (IsAscending cmp) is a)

  -- At the first key stands the first pair.
  pub at_first : (s rest : List (K × V)) (k : K) (v : V) → IsTotalOrder cmp → IsAscending cmp s → s ≡ (k, v) ∷ rest → at cmp s k ≡ Some (k, v)
  at_first s rest k v total a e = at_between s [] rest k v total a e

  -- At the last key stands the last pair.
  pub at_last : (s front : List (K × V)) (k : K) (v : V) → IsTotalOrder cmp → IsAscending cmp s → s ≡ front ++ (k, v) ∷ [] → at cmp s k ≡ Some (k, v)
  at_last s front k v total a e = at_between s front [] k v total a e

  -- A cut at the first key leaves what stands after it.
  pub cut_first : (s rest : List (K × V)) (k : K) (v : V) → IsTotalOrder cmp → IsAscending cmp s → s ≡ (k, v) ∷ rest → cut cmp s k ≡ rest
  cut_first s rest k v total a e = cut_between s [] rest k v total a e

  -- A cut at the last key leaves what stands before it.
  pub cut_last : (s front : List (K × V)) (k : K) (v : V) → IsTotalOrder cmp → IsAscending cmp s → s ≡ front ++ (k, v) ∷ [] → cut cmp s k ≡ front
  cut_last s front k v total a e = cut_between s front [] k v total a e ∙ append-nil front

  -- All pairs lie within no bounds.
  pub within_all : (s : List (K × V)) → within cmp Unbounded Unbounded s ≡ s
  within_all [] = refl
  within_all (e ∷ s) = ap (λ zs. e ∷ zs) (within_all s)

  -- Each key of the pairs within two bounds is within them.
  pub within_bounds : (lo hi : Bound K) (s : List (K × V)) → All (λ e. IsTrue (starts cmp lo e.0) × IsTrue (stops cmp hi e.0)) (within cmp lo hi s)
  within_bounds lo hi s = All-weaker _ _ (λ e h. parts (starts cmp lo e.0) (stops cmp hi e.0) h) (within cmp lo hi s)
      (filter_passes (λ e. starts cmp lo e.0 && stops cmp hi e.0) s)
    where
      parts : (a b : Bool) → (a && b) ≡ true → IsTrue a × IsTrue b
      parts true true h = (refl, refl)
      parts true false h = absurd cc
      parts false b h = absurd cc

  -- The pairs of an ascending list that lie within two bounds are ascending.
  pub ascending_within : (lo hi : Bound K) (s : List (K × V)) → IsAscending cmp s → IsAscending cmp (within cmp lo hi s)
  ascending_within lo hi s a = asc_filter cmp _ s a

  -- From where a range starts on, all pairs of an ascending list pass.
  started : (lo : Bound K) (s : List (K × V)) → IsTotalOrder cmp → IsAscending cmp s
      → drop (length s - length (filter (λ e. starts cmp lo e.0) s)) s ≡ filter (λ e. starts cmp lo e.0) s
  started lo [] total a = refl
  started lo (e ∷ s) total a = go (starts cmp lo e.0) refl (started lo s total a.1)
    where
      rest : List (K × V)
      rest = filter (λ e. starts cmp lo e.0) s

      go : (b : Bool) → starts cmp lo e.0 ≡ b → drop (length s - length rest) s ≡ rest
          → drop (suc (length s) - length (cond b (e ∷ rest) rest)) (e ∷ s) ≡ cond b (e ∷ rest) rest
      go true h i =
          let all : rest ≡ s = kept (λ e. starts cmp lo e.0) s (all_map _ _ (λ x l. starts_on cmp total lo e.0 x.0 l h) s a.0) in
          let n : suc (length s) - suc (length rest) ≡ 0 = let l = ap length all in omega arith in
          rw n (ap (λ zs. e ∷ zs) (sym all))
      go false h i =
          let n : suc (length s) - length rest ≡ suc (length s - length rest) =
          omega (arith, length-filter (λ (e : K × V). starts cmp lo e.0) s, count_by-le-length (λ (e : K × V). starts cmp lo e.0) s) in
          rw n i

  -- Up to where a range ends, all pairs of an ascending list pass.
  stopped : (hi : Bound K) (s : List (K × V)) → IsTotalOrder cmp → IsAscending cmp s
      → take (length (filter (λ e. stops cmp hi e.0) s)) s ≡ filter (λ e. stops cmp hi e.0) s
  stopped hi [] total a = refl
  stopped hi (e ∷ s) total a = go (stops cmp hi e.0) refl (stopped hi s total a.1)
    where
      rest : List (K × V)
      rest = filter (λ e. stops cmp hi e.0) s

      go : (b : Bool) → stops cmp hi e.0 ≡ b → take (length rest) s ≡ rest → take (length (cond b (e ∷ rest) rest)) (e ∷ s) ≡ cond b (e ∷ rest) rest
      go true h i = ap (λ zs. e ∷ zs) i
      go false h i =
          let none : rest ≡ [] = left_out (λ e. stops cmp hi e.0) s (all_map _ _ (λ x l. stops_on cmp total hi e.0 x.0 l h) s a.0) in
          rw none refl

  -- The places of an ascending list from where a range starts up to where it ends are the pairs within its bounds.
  pub places_are_within : (lo hi : Bound K) (s : List (K × V)) → IsTotalOrder cmp → IsAscending cmp s → IsTrue (is_range cmp lo hi)
      → let front = length s - length (filter (λ e. starts cmp lo e.0) s) in
      let back = length (filter (λ e. stops cmp hi e.0) s) in
      take (back - front) (drop front s) ≡ within cmp lo hi s
  places_are_within lo hi s total a range =
      let front = length s - length (filter (λ e. starts cmp lo e.0) s) in
      let back = length (filter (λ e. stops cmp hi e.0) s) in
      let before : length (take front s) ≡ front = length-take-le front s (omega arith) in
      let after : length (take back s) ≡ back = ap length (stopped hi s total a) in
      let n : back - front ≡ length (take back s) - length (take front s) = omega (arith, before, after) in
      let between = between_tests (λ (e : K × V). starts cmp lo e.0) (λ e. stops cmp hi e.0) (λ e. not_after total lo hi range e.0) s (take front s)
      (drop front s) (take back s) (drop back s) (take-append-drop front s) (take-append-drop back s) (started lo s total a) (stopped hi s total a) in
      ap (λ m. take m (drop front s)) n ∙ between.is

module _ {K Q V : Type 0} (cmp : K → K → Ordering) (order : K → Q → Ordering) where
  -- The value that was put at a key stands at each query equal to it.
  pub value_at_put_query : (s : List (K × V)) (k : K) (v : V) (q : Q) → IsTotalOrder cmp → IsQueryOrder cmp order → order k q ≡ Equal
      → value_at order (put cmp s k v) q ≡ Some v
  value_at_put_query s k v q total fits equal = value_at_query cmp order (put cmp s k v) k q fits equal ∙ value_at_put cmp s k v total
