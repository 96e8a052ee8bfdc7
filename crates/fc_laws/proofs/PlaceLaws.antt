-- The laws of what stands at a key: where a value stands, a pair does, which is one of the list; what stood at a key before one was put or cut; and how many
-- pairs there are then.
-- A caller names one on a function, as `#[tactic(auto, using(fc_laws::proofs::Laws::value_at_cut))]`, or cites it in an answer.
use Rattle.std.proofs.Common.{◌≡◌, ◌+◌, ◌≤◌, ◌⊎◌, inl, inr, cond, List, [], ◌∷◌, ◌++◌, length, Option, Some, None, IsSome, refl, sym, ap, ◌∙◌}
use Rattle.std.proofs.Common.{subst, arith, length-append}
use Rattle.std.specs.Prelude.{unwrap_or}
use Rattle.std.specs.List.{Contains, filter}
use Rattle.std.specs.Option.{option_map}
use Rattle.std.specs.Cmp.{IsTotalOrder}
use Rattle.std.specs.Ordering.{is_lt, is_eq, is_gt}
use Rattle.std.specs.declared.cmp.Ordering.{Ordering}
use Rattle.std.specs.declared.cmp.Ordering.TheVariants.{Less, Equal, Greater}
use Rattle.std.proofs.lemmas.List.Elements.{All-contains, All-contains_itself, All-from_recursion, recursion_from_All}
use Rattle.fc_base.specs.Ascending.{IsAscending}
use Rattle.fc_base.specs.OneKey.{put, put_by, cut}
use Rattle.fc_base.specs.Parts.{below, above, at, value_at}
use Rattle.fc_base.specs.Query.{IsQueryOrder}
use Rattle.fc_base.proofs.Laws.{at_query, at_equal, at_put, at_put_other, at_cut, put_by_query, length_put_there}
use Rattle.fc_base.proofs.Laws.{value_at_put_equal, value_at_put_other, value_at_cut_other, value_at_equal}
use Rattle.fc_base.proofs.AscendingFacts.{is_equal}
use Rattle.fc_laws.proofs.ListFacts.{of_found, found_passes, each_there}

module _ {K Q V : Type 0} (order : K → Q → Ordering) (s : List (K × V)) (q : Q) where
  -- The key of the pair that stands at a query is equal to it.
  pub key_at : (k : K) (v : V) → at order s q ≡ Some (k, v) → order k q ≡ Equal
  key_at k v there = is_equal _ (found_passes (λ x. is_eq (order x.0 q)) s (k, v) there)

  -- What stands at a query is a pair of the list.
  pub contains_at : (k : K) (v : V) → at order s q ≡ Some (k, v) → Contains s (k, v)
  contains_at k v there = of_found (Contains s) _ s (k, v) (recursion_from_All (Contains s) s (All-contains_itself s)) there

  -- Where a value stands, a pair does.
  pub some_at : IsSome (value_at order s q) → IsSome (at order s q)
  some_at there = go (at order s q) there
    where
      go : (o : Option (K × V)) → IsSome (option_map (λ e. e.1) o) → IsSome o
      go None h = absurd cc
      go (Some e) h = h

  -- Where no value stands, no pair does.
  pub none_at : value_at order s q ≡ None → at order s q ≡ None
  none_at none = go (at order s q) none
    where
      go : (o : Option (K × V)) → option_map (λ e. e.1) o ≡ None → o ≡ None
      go None h = refl
      go (Some e) h = absurd cc

  -- the value that stands at a query is that of a pair whose key is equal to it
  pair_of_value : (v : V) → value_at order s q ≡ Some v → (k : K) × (at order s q ≡ Some (k, v)) × (order k q ≡ Equal)
  pair_of_value v there = go (at order s q) refl there
    where
      go : (o : Option (K × V)) → at order s q ≡ o → option_map (λ e. e.1) o ≡ Some v → (k : K) × (at order s q ≡ Some (k, v)) × (order k q ≡ Equal)
      go None h is = absurd cc
      go (Some e) h is =
          let same : e.1 ≡ v = cc in
          (e.0, h ∙ (λ i. Some (e.0, same i)), key_at e.0 e.1 h)

  -- No value stands at a query whose pair was cut.
  pub value_at_cut : value_at order (cut order s q) q ≡ None
  value_at_cut = ap (option_map (λ e. e.1)) (at_cut order s q)

-- one key is equal to another or not
decided : {K G : Type 0} (cmp : K → K → Ordering) (j k : K) → (cmp j k ≡ Equal → G) → (¬ (cmp j k ≡ Equal) → G) → G
decided {G = G} cmp j k same other = go (cmp j k) refl
  where
    go : (r : Ordering) → cmp j k ≡ r → G
    go Less h = other (λ e. absurd (let no = sym h ∙ e in cc))
    go Equal h = same h
    go Greater h = other (λ e. absurd (let no = sym h ∙ e in cc))

module _ {K V : Type 0} (cmp : K → K → Ordering) where
  -- At the key of a pair of an ascending list stands that pair.
  pub at_contained : (s : List (K × V)) (k : K) (v : V) → IsTotalOrder cmp → IsAscending cmp s → Contains s (k, v) → at cmp s k ≡ Some (k, v)
  at_contained s k v total a there = All-contains (λ x. at cmp s x.0 ≡ Some x) s (k, v) (All-from_recursion _ s (each_there cmp s total a)) there

  -- Where a pair stands at a key, one stands there once another was put.
  pub some_put : (s : List (K × V)) (k : K) (v : V) (j : K) → IsTotalOrder cmp → IsSome (at cmp s j) → IsSome (at cmp (put cmp s k v) j)
  some_put s k v j total there = decided cmp j k
      (λ same. rw (at_equal cmp (put cmp s k v) k j total same ∙ at_put cmp s k v total) refl)
      (λ other. rw (at_put_other cmp s k v j total other) there)

  -- A value that stands at a key once a pair was put is the one that was put, or stood there before.
  pub value_before_put : (s : List (K × V)) (k : K) (v : V) (j : K) (w : V) → IsTotalOrder cmp → value_at cmp (put cmp s k v) j ≡ Some w
      → ((cmp j k ≡ Equal) × (w ≡ v)) ⊎ (¬ (cmp j k ≡ Equal) × (value_at cmp s j ≡ Some w))
  value_before_put s k v j w total there = decided cmp j k
      (λ same. inl (same, let is : Some w ≡ Some v = sym there ∙ value_at_put_equal cmp s k v j total same in cc))
      (λ other. inr (other, sym (value_at_put_other cmp s k v j total other) ∙ there))

  -- A value that stands at a key once a pair was cut stood there before, at a key that is not equal to the cut one.
  pub value_before_cut : (s : List (K × V)) (k j : K) (w : V) → IsTotalOrder cmp → value_at cmp (cut cmp s k) j ≡ Some w
      → ¬ (cmp j k ≡ Equal) × (value_at cmp s j ≡ Some w)
  value_before_cut s k j w total there = decided cmp j k
      (λ same. absurd (
      let gone : Some w ≡ None = sym there ∙ value_at_equal cmp (cut cmp s k) k j total same ∙ value_at_cut cmp s k in
      cc))
      (λ other. (other, sym (value_at_cut_other cmp s k j total other) ∙ there))

module _ {K V : Type 0} (order : K → Ordering) where
  -- what is below and what is above are no more than all
  both_parts : (s : List (K × V)) → length (filter (λ e. is_lt (order e.0)) s) + length (filter (λ e. is_gt (order e.0)) s) ≤ length s
  both_parts [] = omega arith
  both_parts (e ∷ s) = go (order e.0) (both_parts s)
    where
      lower : List (K × V)
      lower = filter (λ e. is_lt (order e.0)) s

      upper : List (K × V)
      upper = filter (λ e. is_gt (order e.0)) s

      go : (r : Ordering) → length lower + length upper ≤ length s
          → length (cond (is_lt r) (e ∷ lower) lower) + length (cond (is_gt r) (e ∷ upper) upper) ≤ length (e ∷ s)
      go Less h = omega (arith, h)
      go Equal h = omega (arith, h)
      go Greater h = omega (arith, h)

module _ {K V : Type 0} (cmp : K → K → Ordering) where
  -- A put adds at most one pair.
  pub length_put_at_most : (s : List (K × V)) (k : K) (v : V) → length (put cmp s k v) ≤ length s + 1
  length_put_at_most s k v =
      let x : K × V = (unwrap_or (option_map (λ (e : K × V). e.0) (at cmp s k)) k, v) in
      let parts = both_parts (λ j. cmp j k) s in
      omega (arith, length-append (below cmp s k) (x ∷ above cmp s k), parts)

module _ {K Q V : Type 0} (cmp : K → K → Ordering) (order : K → Q → Ordering) where
  -- A value that is written where one stands at a query, as through `get_mut`, keeps the length.
  pub length_written : (s : List (K × V)) (q : Q) (k : K) (old new : V) → IsTotalOrder cmp → IsQueryOrder cmp order → IsAscending cmp s
      → value_at order s q ≡ Some old → length (put_by order s q k new) ≡ length s
  length_written s q k old new total fits a there =
      let found = pair_of_value order s q old there in
      let written : K → List (K × V) = λ j. put_by order s q j new in
      let any : written k ≡ written found.0 =
      ap (λ o. below order s q ++ (unwrap_or (option_map (λ (e : K × V). e.0) o) k, new) ∷ above order s q) found.1
      ∙ sym (ap (λ o. below order s q ++ (unwrap_or (option_map (λ (e : K × V). e.0) o) found.0, new) ∷ above order s q) found.1) in
      let here : at cmp s found.0 ≡ Some (found.0, old) = sym (at_query cmp order s found.0 q fits found.2) ∙ found.1 in
      ap length (any ∙ put_by_query cmp order s found.0 new q fits found.2)
      ∙ length_put_there cmp s found.0 new total a (subst IsSome (sym here) refl)
