-- Equality of maps is symmetric and transitive, and reflexive where that of values is: equal maps agree at every key.
use Rattle.std.proofs.Common.{◌≡◌, Bool, true, false, cond, ◌&&◌, List, [], ◌∷◌, Option, None, Some, refl, sym, ◌∙◌, inl, inr, true≢false}
use Rattle.std.proofs.Math.Bool.{and_comm}
use Rattle.std.proofs.lemmas.List.Sums.{list_all-from_AllPass}
use Rattle.std.specs.Prelude.{◌⊎◌, slice_index_or}
use Rattle.std.specs.Cmp.{IsPartialEquivalence, IsEquivalence, equiv, partial_equiv_from_equiv, first_so, second_so}
use Rattle.std.specs.List.{list_all}
use Rattle.std.specs.Map.{keys_of}
use Rattle.std.specs.Option.{option_eq}
use Rattle.fc_hash.specs.Pairs.{Hashed, value_at, agree_at, are_equal}

module _ {V : Type 0} (same : V → V → Bool) (laws : IsPartialEquivalence same) where
  values_symm : (a b : Option V) → option_eq same a b ≡ option_eq same b a
  values_symm None None = refl
  values_symm None (Some y) = refl
  values_symm (Some x) None = refl
  values_symm (Some x) (Some y) = laws.symm x y

  values_trans : (a b c : Option V) → option_eq same a b ≡ true → option_eq same b c ≡ true → option_eq same a c ≡ true
  values_trans None None c p q = q
  values_trans None (Some y) c p q = absurd (true≢false (sym p))
  values_trans (Some x) None c p q = absurd (true≢false (sym p))
  values_trans (Some x) (Some y) None p q = absurd (true≢false (sym q))
  values_trans (Some x) (Some y) (Some z) p q = laws.trans x y z p q

values_refl : {V : Type 0} (same : V → V → Bool) → ((x : V) → same x x ≡ true) → (a : Option V) → option_eq same a a ≡ true
values_refl same each None = refl
values_refl same each (Some x) = each x

module _ {K V : Type 0} {eq : K → K → Bool} (keys : IsEquivalence eq) where
  -- Equal keys find the same value.
  value_by_equal : (q k : K) → eq q k ≡ true → (ps : List (K × V)) → value_at eq q ps ≡ value_at eq k ps
  value_by_equal q k e [] = refl
  value_by_equal q k e (p ∷ ps) = λ i. cond (keys.congr q k p.0 e i) (Some p.1) (value_by_equal q k e ps i)

  -- A key finds no value, or it is equal to one at which a test passes that passes at all keys.
  abbrev FindsNone-or_passes : (K → Bool) → K → Option V → Type 0
  FindsNone-or_passes test q found = (found ≡ None) ⊎ ((k : K) × (eq q k ≡ true) × (test k ≡ true))

  first_key : (test : K → Bool) (q : K) (p : K × V) (rest : Option V) (b : Bool) → eq q p.0 ≡ b → test p.0 ≡ true → FindsNone-or_passes test q rest → FindsNone-or_passes test q (cond b (Some p.1) rest)
  first_key test q p rest true e passes after = inr (p.0, e, passes)
  first_key test q p rest false e passes after = after

  finds_none_or_passes : (test : K → Bool) (q : K) (ps : List (K × V)) → list_all test (keys_of ps) ≡ true → FindsNone-or_passes test q (value_at eq q ps)
  finds_none_or_passes test q [] all = inl refl
  finds_none_or_passes test q (p ∷ ps) all =
      first_key test q p (value_at eq q ps) (eq q p.0) refl (first_so (test p.0) _ all) (finds_none_or_passes test q ps (second_so (test p.0) _ all))

  module _ (same : V → V → Bool) where
    agree_by_equal : (ps qs : List (K × V)) (q k : K) → eq q k ≡ true → agree_at eq same ps qs k ≡ true → agree_at eq same ps qs q ≡ true
    agree_by_equal ps qs q k e h = (λ i. option_eq same (value_by_equal q k e ps i) (value_by_equal q k e qs i)) ∙ h

    agree_or_absent : (ps qs : List (K × V)) (q : K) → FindsNone-or_passes (agree_at eq same ps qs) q (value_at eq q ps) → FindsNone-or_passes (agree_at eq same ps qs) q (value_at eq q qs) → agree_at eq same ps qs q ≡ true
    agree_or_absent ps qs q (inr one) second = agree_by_equal ps qs q one.0 one.1 one.2
    agree_or_absent ps qs q (inl none) (inr one) = agree_by_equal ps qs q one.0 one.1 one.2
    agree_or_absent ps qs q (inl none) (inl nor) = λ i. option_eq same (none i) (nor i)

    -- Equal maps agree at every key, and maps that do are equal.
    pub agree_everywhere : (ps qs : List (K × V)) → are_equal eq same ps qs ≡ true → (q : K) → agree_at eq same ps qs q ≡ true
    agree_everywhere ps qs e q =
        let test = agree_at eq same ps qs in
        agree_or_absent ps qs q (finds_none_or_passes test q ps (first_so (list_all test (keys_of ps)) _ e)) (finds_none_or_passes test q qs (second_so (list_all test (keys_of ps)) _ e))

    pub equal_where_all_agree : (ps qs : List (K × V)) → ((q : K) → agree_at eq same ps qs q ≡ true) → are_equal eq same ps qs ≡ true
    equal_where_all_agree ps qs h =
        let test = agree_at eq same ps qs in
        let each = λ (ks : List K). list_all-from_AllPass test ks (λ i d within. h (slice_index_or ks i d)) in
        λ i. each (keys_of ps) i && each (keys_of qs) i

  pub equal_maps_per : {same : V → V → Bool} → IsPartialEquivalence same → IsPartialEquivalence (λ (m n : Hashed K V). are_equal eq same m.pairs n.pairs)
  equal_maps_per {same} laws =
      record {
        symm = λ m n.
            let turned = λ (k : K). values_symm same laws (value_at eq k m.pairs) (value_at eq k n.pairs) in
            and_comm (list_all (agree_at eq same m.pairs n.pairs) (keys_of m.pairs)) (list_all (agree_at eq same m.pairs n.pairs) (keys_of n.pairs))
            ∙ (λ i. list_all (λ k. turned k i) (keys_of n.pairs) && list_all (λ k. turned k i) (keys_of m.pairs));
        trans = λ l m n e f. equal_where_all_agree same l.pairs n.pairs (λ q. values_trans same laws (value_at eq q l.pairs) (value_at eq q m.pairs) (value_at eq q n.pairs) (agree_everywhere same l.pairs m.pairs e q) (agree_everywhere same m.pairs n.pairs f q));
      }

  pub equal_maps_equiv : {same : V → V → Bool} → IsEquivalence same → IsEquivalence (λ (m n : Hashed K V). are_equal eq same m.pairs n.pairs)
  equal_maps_equiv {same} laws =
      equiv (equal_maps_per (partial_equiv_from_equiv laws)) (λ m. equal_where_all_agree same m.pairs m.pairs (λ q. values_refl same laws.refl (value_at eq q m.pairs)))
