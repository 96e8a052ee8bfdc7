-- The laws of the pairs next to a key: the parts of a list that they stand at the ends of are ranges that are open at one end, which pairs of an ascending
-- list they are, and what they are once a pair was put or cut at that key.
use Rattle.std.proofs.Common.{◌≡◌, suc, ◌-◌, Bool, true, false, cond, List, [], ◌∷◌, ◌++◌, length, slice_get, Some, None, refl, sym, ap, ◌∙◌, subst, arith}
use Rattle.std.proofs.Common.{append-nil}
use Rattle.std.specs.Prelude.{◌&&◌, unwrap_or}
use Rattle.std.specs.List.{AllByRecursion, filter}
use Rattle.std.specs.Option.{option_map}
use Rattle.std.specs.Cmp.{IsTotalOrder}
use Rattle.std.specs.Ordering.{is_lt, is_le, is_eq, is_gt, is_ge}
use Rattle.std.specs.declared.cmp.Ordering.{Ordering}
use Rattle.std.specs.declared.cmp.Ordering.TheVariants.{Less, Equal, Greater}
use Rattle.std.specs.declared.ops.Bound.TheVariants.{Included, Excluded, Unbounded}
use Rattle.std.proofs.lemmas.Cmp.{tied_itself}
use Rattle.std.proofs.lemmas.List.Elements.{filter-append}
use Rattle.std.proofs.lemmas.Map.Lookups.{CmpEqualImpliesEq}
use Rattle.fc_base.specs.Ascending.{IsAscending}
use Rattle.fc_base.specs.Halves.{not_below}
use Rattle.fc_base.specs.OneKey.{put, cut}
use Rattle.fc_base.specs.Parts.{below, above, at, value_at}
use Rattle.fc_base.specs.Query.{IsQueryOrder}
use Rattle.fc_base.specs.Ranges.{within}
use Rattle.fc_base.proofs.AscendingFacts.{all_map, all_below, all_above, at_key, asc_filter}
use Rattle.fc_base.proofs.Laws.{alike_query}
use Rattle.fc_laws.proofs.ListFacts.{of_found, each_there}
use Rattle.fc_tree_search.specs.Neighbours.{first_item, last_item, not_above}
use Rattle.fc_tree_search.proofs.NeighbourFacts.{last_is}

-- a test that another one is joined to which always passes
and_true : (b : Bool) → (b && true) ≡ b
and_true true = refl
and_true false = refl

module _ {K V : Type 0} (cmp : K → K → Ordering) (s : List (K × V)) (k : K) where
  -- The pairs from a key on, and those after it, lie within a range that is open at its end.
  pub within_from : within cmp (Included k) Unbounded s ≡ not_below cmp s k
  within_from = ap (λ (p : K × V → Bool). filter p s) (λ i e. and_true (is_ge (cmp e.0 k)) i)

  pub within_after : within cmp (Excluded k) Unbounded s ≡ above cmp s k
  within_after = ap (λ (p : K × V → Bool). filter p s) (λ i e. and_true (is_gt (cmp e.0 k)) i)

  -- The pairs up to a key, and those before it, lie within a range that is open at its start.
  pub within_to : within cmp Unbounded (Included k) s ≡ not_above cmp s k
  within_to = refl

  pub within_before : within cmp Unbounded (Excluded k) s ≡ below cmp s k
  within_before = refl

module _ {K Q V : Type 0} (cmp : K → K → Ordering) (order : K → Q → Ordering) (s : List (K × V)) (k : K) (q : Q) (fits : IsQueryOrder cmp order)
    (equal : order k q ≡ Equal) where
  -- The parts of a list around a query are those around a key equal to it.
  pub not_below_query : not_below order s q ≡ not_below cmp s k
  not_below_query = ap (λ (f : K → Ordering). filter (λ e. is_ge (f e.0)) s) (alike_query cmp order k q fits equal)

  pub above_query : above order s q ≡ above cmp s k
  above_query = ap (λ (f : K → Ordering). filter (λ e. is_gt (f e.0)) s) (alike_query cmp order k q fits equal)

  pub not_above_query : not_above order s q ≡ not_above cmp s k
  not_above_query = ap (λ (f : K → Ordering). filter (λ e. is_le (f e.0)) s) (alike_query cmp order k q fits equal)

  pub below_query : below order s q ≡ below cmp s k
  below_query = ap (λ (f : K → Ordering). filter (λ e. is_lt (f e.0)) s) (alike_query cmp order k q fits equal)

module _ {X : Type 0} where
  last_more : (x y : X) (s : List X) → last_item (x ∷ y ∷ s) ≡ last_item (y ∷ s)
  last_more x y s = let n : suc (suc (length s)) - 1 ≡ suc (suc (length s) - 1) = omega arith in ap (slice_get (x ∷ y ∷ s)) n

  -- what holds of each item holds of the first and of the last
  of_first : (P : X → Type 0) (s : List X) (x : X) → AllByRecursion P s → first_item s ≡ Some x → P x
  of_first P [] x a e = absurd cc
  of_first P (y ∷ s) x a e = let same : y ≡ x = cc in subst P same a.0

  of_last : (P : X → Type 0) (s : List X) (x : X) → AllByRecursion P s → last_item s ≡ Some x → P x
  of_last P [] x a e = absurd cc
  of_last P (y ∷ []) x a e = let same : y ≡ x = cc in subst P same a.0
  of_last P (y ∷ z ∷ s) x a e = of_last P (z ∷ s) x a.1 (sym (last_more y z s) ∙ e)

  -- a list that has no first or no last item is empty
  no_first : (s : List X) → first_item s ≡ None → s ≡ []
  no_first [] e = refl
  no_first (y ∷ s) e = absurd cc

  no_last : (s : List X) → last_item s ≡ None → s ≡ []
  no_last [] e = refl
  no_last (y ∷ []) e = absurd cc
  no_last (y ∷ z ∷ s) e = absurd (let n : z ∷ s ≡ [] = no_last (z ∷ s) (sym (last_more y z s) ∙ e) in cc)

  module _ (p : X → Bool) where
    -- what a test keeps passes it, and what holds of all holds of that
    all_pass : (s : List X) → AllByRecursion (λ x. p x ≡ true) (filter p s)
    all_pass [] = tt
    all_pass (y ∷ s) = go (p y) refl (all_pass s)
      where
        go : (b : Bool) → p y ≡ b → AllByRecursion (λ x. p x ≡ true) (filter p s) → AllByRecursion (λ x. p x ≡ true) (cond b (y ∷ filter p s) (filter p s))
        go true e more = (e, more)
        go false e more = more

    all_kept : (P : X → Type 0) (s : List X) → AllByRecursion P s → AllByRecursion P (filter p s)
    all_kept P [] a = tt
    all_kept P (y ∷ s) a = elim (p y) as (λ b. AllByRecursion P (cond b (y ∷ filter p s) (filter p s)))
        [ true ↦ (a.0, all_kept P s a.1) | false ↦ all_kept P s a.1 ]

    -- what holds of all that a test keeps holds of each item that passes
    all_passing : (P : X → Type 0) (s : List X) → AllByRecursion P (filter p s) → AllByRecursion (λ x. p x ≡ true → P x) s
    all_passing P [] a = tt
    all_passing P (y ∷ s) a = go (p y) refl a (all_passing P s)
      where
        go : (b : Bool) → p y ≡ b → AllByRecursion P (cond b (y ∷ filter p s) (filter p s))
            → (AllByRecursion P (filter p s) → AllByRecursion (λ x. p x ≡ true → P x) s) → AllByRecursion (λ x. p x ≡ true → P x) (y ∷ s)
        go true e a more = (λ h. a.0, more a.1)
        go false e a more = (λ h. absurd cc, more a)

module _ {K V : Type 0} (cmp : K → K → Ordering) where
  -- Where keys that compare as equal are one key, at the key of a value stands the pair of both.
  pub exact_pair : (s : List (K × V)) (k : K) (v : V) → CmpEqualImpliesEq cmp → value_at cmp s k ≡ Some v → at cmp s k ≡ Some (k, v)
  exact_pair [] k v exact h = absurd cc
  exact_pair (e ∷ s) k v exact h = go (cmp e.0 k) refl h (exact_pair s k v exact)
    where
      go : (r : Ordering) → cmp e.0 k ≡ r → option_map (λ x. x.1) (cond (is_eq r) (Some e) (at cmp s k)) ≡ Some v
          → (value_at cmp s k ≡ Some v → at cmp s k ≡ Some (k, v)) → cond (is_eq r) (Some e) (at cmp s k) ≡ Some (k, v)
      go Less q h more = more h
      go Equal q h more = let key : e.0 ≡ k = exact e.0 k q in let value : e.1 ≡ v = cc in λ i. Some (key i, value i)
      go Greater q h more = more h

  -- the first pair is not above any, and none is above the last
  up_from : (s : List (K × V)) (e : K × V) → IsTotalOrder cmp → IsAscending cmp s → first_item s ≡ Some e → AllByRecursion (λ x. is_le (cmp e.0 x.0) ≡ true) s
  up_from [] e total a f = tt
  up_from (y ∷ s) e total a f =
      let same : y ≡ e = cc in
      subst (λ z. AllByRecursion (λ x. is_le (cmp z.0 x.0) ≡ true) (y ∷ s)) same (ap is_le (tied_itself total y.0), all_map _ _ (λ x l. ap is_le l) s a.0)

  up_to : (s : List (K × V)) (e : K × V) → IsTotalOrder cmp → IsAscending cmp s → last_item s ≡ Some e → AllByRecursion (λ x. is_le (cmp x.0 e.0) ≡ true) s
  up_to [] e total a f = tt
  up_to (y ∷ []) e total a f = let same : y ≡ e = cc in (subst (λ z. is_le (cmp y.0 z.0) ≡ true) same (ap is_le (tied_itself total y.0)), tt)
  up_to (y ∷ z ∷ s) e total a f = let g = sym (last_more y z s) ∙ f in
      (ap is_le (of_last (λ x. cmp y.0 x.0 ≡ Less) (z ∷ s) e a.0 g), up_to (z ∷ s) e total a.1 g)

  -- The test p of keys is `λ k. is_ge (order k q)` for `first_at_or_after` at a query q, with `is_gt`, `is_le` and
  -- `is_lt` for the other three calls; for a range it is its two bounds.
  module _ (p : K → Bool) (s : List (K × V)) (e : K × V) where
    -- The first pair that passes stands in the list, and passes.
    pub first_there : IsTotalOrder cmp → IsAscending cmp s → first_item (filter (λ x. p x.0) s) ≡ Some e → at cmp s e.0 ≡ Some e
    first_there total a f = of_first _ _ e (all_kept (λ x. p x.0) _ s (each_there cmp s total a)) f

    pub first_passes : first_item (filter (λ x. p x.0) s) ≡ Some e → p e.0 ≡ true
    first_passes f = of_first (λ x. p x.0 ≡ true) _ e (all_pass (λ x. p x.0) s) f

    -- It is not above any that stands in the list and passes.
    pub first_least : (k : K) (x : K × V) → IsTotalOrder cmp → IsAscending cmp s → first_item (filter (λ x. p x.0) s) ≡ Some e → at cmp s k ≡ Some x
        → p x.0 ≡ true → is_le (cmp e.0 x.0) ≡ true
    first_least k x total a f there passes =
        of_found (λ y. p y.0 ≡ true → is_le (cmp e.0 y.0) ≡ true) _ s x
        (all_passing (λ y. p y.0) (λ y. is_le (cmp e.0 y.0) ≡ true) s (up_from _ e total (asc_filter cmp _ s a) f)) there passes

    -- The last pair that passes stands in the list, and passes.
    pub last_there : IsTotalOrder cmp → IsAscending cmp s → last_item (filter (λ x. p x.0) s) ≡ Some e → at cmp s e.0 ≡ Some e
    last_there total a f = of_last _ _ e (all_kept (λ x. p x.0) _ s (each_there cmp s total a)) f

    pub last_passes : last_item (filter (λ x. p x.0) s) ≡ Some e → p e.0 ≡ true
    last_passes f = of_last (λ x. p x.0 ≡ true) _ e (all_pass (λ x. p x.0) s) f

    -- None that stands in the list and passes is above it.
    pub last_greatest : (k : K) (x : K × V) → IsTotalOrder cmp → IsAscending cmp s → last_item (filter (λ x. p x.0) s) ≡ Some e → at cmp s k ≡ Some x
        → p x.0 ≡ true → is_le (cmp x.0 e.0) ≡ true
    last_greatest k x total a f there passes =
        of_found (λ y. p y.0 ≡ true → is_le (cmp y.0 e.0) ≡ true) _ s x
        (all_passing (λ y. p y.0) (λ y. is_le (cmp y.0 e.0) ≡ true) s (up_to _ e total (asc_filter cmp _ s a) f)) there passes

  module _ (p : K → Bool) (s : List (K × V)) (k : K) (x : K × V) where
    none_kept : filter (λ x. p x.0) s ≡ [] → at cmp s k ≡ Some x → ¬ (p x.0 ≡ true)
    none_kept f there = of_found (λ y. ¬ (p y.0 ≡ true)) _ s x (all_passing (λ y. p y.0) (λ y. ⊥) s (subst (AllByRecursion (λ y. ⊥)) (sym f) tt)) there

    -- Where there is no first pair that passes, or no last one, no pair of the list does.
    pub first_none : first_item (filter (λ x. p x.0) s) ≡ None → at cmp s k ≡ Some x → ¬ (p x.0 ≡ true)
    first_none f = none_kept (no_first _ f)

    pub last_none : last_item (filter (λ x. p x.0) s) ≡ None → at cmp s k ≡ Some x → ¬ (p x.0 ≡ true)
    last_none f = none_kept (no_last _ f)

module _ {K Q V : Type 0} (cmp : K → Q → Ordering) (t : Ordering → Bool) (k : Q) where
  -- a test of how keys stand to k keeps all that stand to it in one way, or none of them
  one_way : (r : Ordering) (s : List (K × V)) → AllByRecursion (λ e. cmp e.0 k ≡ r) s → filter (λ e. t (cmp e.0 k)) s ≡ cond (t r) s []
  one_way r [] a = elim (t r) as (λ b. ◌≡◌ {A = List (K × V)} [] (cond b [] [])) [ true ↦ refl | false ↦ refl ]
  one_way r (e ∷ s) a = rw a.0 (go (t r) (one_way r s a.1))
    where
      go : (b : Bool) → filter (λ e. t (cmp e.0 k)) s ≡ cond b s [] → cond b (e ∷ filter (λ e. t (cmp e.0 k)) s) (filter (λ e. t (cmp e.0 k)) s)
          ≡ cond b (e ∷ s) []
      go true i = ap (λ zs. e ∷ zs) i
      go false i = i

  -- and so it does with what is below k and above k, whatever stands between them
  around : (s between : List (K × V)) → filter (λ e. t (cmp e.0 k)) (below cmp s k ++ (between ++ above cmp s k)) ≡ cond (t Less) (below cmp s k) []
      ++ (filter (λ e. t (cmp e.0 k)) between ++ cond (t Greater) (above cmp s k) [])
  around s between =
      filter-append _ (below cmp s k) (between ++ above cmp s k)
      ∙ rw (
        one_way Less (below cmp s k) (all_below cmp s k),
        filter-append (λ e. t (cmp e.0 k)) between (above cmp s k),
        one_way Greater (above cmp s k) (all_above cmp s k),
      ) refl

module _ {K Q V : Type 0} (cmp : K → Q → Ordering) (s : List (K × V)) (k : Q) where
  -- A cut at a key leaves what is below it and what is above it; so the pairs from the key on are those after it, and those up to it are those before it.
  pub below_cut : below cmp (cut cmp s k) k ≡ below cmp s k
  below_cut = around cmp is_lt k s [] ∙ append-nil (below cmp s k)

  pub above_cut : above cmp (cut cmp s k) k ≡ above cmp s k
  above_cut = around cmp is_gt k s []

  pub not_below_cut : not_below cmp (cut cmp s k) k ≡ above cmp s k
  not_below_cut = around cmp is_ge k s []

  pub not_above_cut : not_above cmp (cut cmp s k) k ≡ below cmp s k
  not_above_cut = around cmp is_le k s [] ∙ append-nil (below cmp s k)

module _ {K V : Type 0} (cmp : K → K → Ordering) (s : List (K × V)) (k : K) (v : V) where
  abbrev new : K × V
  new = (unwrap_or (option_map (λ (e : K × V). e.0) (at cmp s k)) k, v)

  -- A pair that is put at a key leaves what is below it and what is above it.
  pub below_put : IsTotalOrder cmp → below cmp (put cmp s k v) k ≡ below cmp s k
  below_put total = around cmp is_lt k s (new ∷ []) ∙ rw (at_key cmp total k s) (append-nil (below cmp s k))

  pub above_put : IsTotalOrder cmp → above cmp (put cmp s k v) k ≡ above cmp s k
  above_put total = around cmp is_gt k s (new ∷ []) ∙ rw (at_key cmp total k s) refl

  -- It is the first of the pairs from the key on, and the last of those up to it.
  pub not_below_put : IsTotalOrder cmp → not_below cmp (put cmp s k v) k ≡ (unwrap_or (option_map (λ e. e.0) (at cmp s k)) k, v) ∷ above cmp s k
  not_below_put total = around cmp is_ge k s (new ∷ []) ∙ rw (at_key cmp total k s) refl

  pub not_above_put : IsTotalOrder cmp → not_above cmp (put cmp s k v) k ≡ below cmp s k ++ (unwrap_or (option_map (λ e. e.0) (at cmp s k)) k, v) ∷ []
  not_above_put total = around cmp is_le k s (new ∷ []) ∙ rw (at_key cmp total k s) refl

  pub first_put : IsTotalOrder cmp → first_item (not_below cmp (put cmp s k v) k) ≡ Some (unwrap_or (option_map (λ e. e.0) (at cmp s k)) k, v)
  first_put total = ap first_item (not_below_put total)

  pub last_put : IsTotalOrder cmp → last_item (not_above cmp (put cmp s k v) k) ≡ Some (unwrap_or (option_map (λ e. e.0) (at cmp s k)) k, v)
  last_put total = ap last_item (not_above_put total) ∙ last_is (below cmp s k) _
