-- Entries from the other end: where at most one key passes a test, the same is found there, and the same is left.
use Rattle.std.proofs.Common.{◌≡◌, Bool, true, false, cond, List, [], ◌∷◌, ◌++◌, reverse, None, Some, option_map, refl, sym, ap, ◌∙◌}
use Rattle.std.proofs.lemmas.List.{append-nil, reverse-append}
use Rattle.std.proofs.lemmas.List.Sorted.{IsPermutation-reverse, IsPermutation-map}
use Rattle.std.proofs.lemmas.Map.Keys.{IsDistinct-IsPermutation}
use Rattle.std.proofs.lemmas.Option.{none-some}
use Rattle.std.specs.Cmp.{IsEquivalence}
use Rattle.std.specs.List.{AllByRecursion, IsDistinct}
use Rattle.std.specs.Map.{keys_of, lookup, lookup_entry, remove_entry}
use Rattle.lru.proofs.Pairs.{lookup-lookup_entry}

module _ {K X : Type 0} (test : K → Bool) where
  -- Where no key passes, all entries are left.
  pub left_missed : (es : List (K × X)) → lookup_entry test es ≡ None → remove_entry test es ≡ es
  left_missed [] h = refl
  left_missed (e ∷ es) h = (elim (test e.0) as (λ b. cond b (Some e) (lookup_entry test es) ≡ None → cond b es (e ∷ remove_entry test es) ≡ e ∷ es) [
    | true ↦ λ n. absurd (none-some e (sym n))
    | false ↦ λ n. ap (λ l. e ∷ l) (left_missed es n)
  ]) h

  -- A search goes on where the first entries miss.
  pub found_on : (xs ys : List (K × X)) → lookup_entry test xs ≡ None → lookup_entry test (xs ++ ys) ≡ lookup_entry test ys
  found_on [] ys h = refl
  found_on (x ∷ xs) ys h =
      (elim (test x.0) as (λ b. cond b (Some x) (lookup_entry test xs) ≡ None → cond b (Some x) (lookup_entry test (xs ++ ys)) ≡ lookup_entry test ys) [
        | true ↦ λ n. absurd (none-some x (sym n))
        | false ↦ λ n. found_on xs ys n
      ]) h

  left_on : (xs ys : List (K × X)) → lookup_entry test xs ≡ None → remove_entry test (xs ++ ys) ≡ xs ++ remove_entry test ys
  left_on [] ys h = refl
  left_on (x ∷ xs) ys h =
      (elim (test x.0) as (λ b. cond b (Some x) (lookup_entry test xs) ≡ None
      → cond b (xs ++ ys) (x ∷ remove_entry test (xs ++ ys)) ≡ x ∷ xs ++ remove_entry test ys) [
        | true ↦ λ n. absurd (none-some x (sym n))
        | false ↦ λ n. ap (λ l. x ∷ l) (left_on xs ys n)
      ]) h

  -- A last entry that does not pass is beside it.
  found_before : (xs : List (K × X)) (e : K × X) → test e.0 ≡ false → lookup_entry test (xs ++ e ∷ []) ≡ lookup_entry test xs
  found_before [] e off = ap (λ b. cond b (Some e) None) off
  found_before (x ∷ xs) e off = ap (cond (test x.0) (Some x)) (found_before xs e off)

  left_before : (xs : List (K × X)) (e : K × X) → test e.0 ≡ false → remove_entry test (xs ++ e ∷ []) ≡ remove_entry test xs ++ e ∷ []
  left_before [] e off = ap (λ b. cond b [] (e ∷ [])) off
  left_before (x ∷ xs) e off =
      elim (test x.0) as (λ b. cond b (xs ++ e ∷ []) (x ∷ remove_entry test (xs ++ e ∷ [])) ≡ cond b xs (x ∷ remove_entry test xs) ++ e ∷ []) [
        | true ↦ refl
        | false ↦ ap (λ l. x ∷ l) (left_before xs e off)
      ]

  pub record Reversed (es : List (K × X)) : Type 0 where
    pub entry : lookup_entry test (reverse es) ≡ lookup_entry test es
    pub left : remove_entry test (reverse es) ≡ reverse (remove_entry test es)

  module _ {eq : K → K → Bool} (one : (x y : K) → test x ≡ true → test y ≡ eq x y) where
    pub none_beside : (x : K) (es : List (K × X)) → test x ≡ true → AllByRecursion (λ y. eq x y ≡ false) (keys_of es) → lookup_entry test es ≡ None
    none_beside x [] t all = refl
    none_beside x (e ∷ es) t all = ap (λ b. cond b (Some e) (lookup_entry test es)) (one x e.0 t ∙ all.0) ∙ none_beside x es t all.1

    -- Once the entry whose key passes is taken out, none is left.
    pub none_left : (es : List (K × X)) → IsDistinct eq (keys_of es) → lookup_entry test (remove_entry test es) ≡ None
    unfolding IsDistinct
    none_left [] d = refl
    none_left (e ∷ es) d = (elim (test e.0) as (λ b. test e.0 ≡ b → lookup_entry test (cond b es (e ∷ remove_entry test es)) ≡ None) [
      | true ↦ λ t. none_beside e.0 es t d.0
      | false ↦ λ t. ap (λ b. cond b (Some e) (lookup_entry test (remove_entry test es))) t ∙ none_left es d.1
    ]) refl

    pub reversed : (es : List (K × X)) → IsDistinct eq (keys_of es) → Reversed es
    unfolding IsDistinct
    reversed [] d = record { entry = refl; left = refl }
    reversed (e ∷ es) d =
        let on = reversed es d.1 in
        let turned : reverse (e ∷ es) ≡ reverse es ++ e ∷ [] = reverse-append (e ∷ []) es in
        let found : (b : Bool) → test e.0 ≡ b → cond b (Some e) (lookup_entry test es) ≡ lookup_entry test (e ∷ es) =
        λ b t. ap (λ r. cond r (Some e) (lookup_entry test es)) (sym t) in
        let left : (b : Bool) → test e.0 ≡ b → reverse (cond b es (e ∷ remove_entry test es)) ≡ reverse (remove_entry test (e ∷ es)) =
        λ b t. ap (λ r. reverse (cond r es (e ∷ remove_entry test es))) (sym t) in
        (elim (test e.0) as (λ b. test e.0 ≡ b → Reversed (e ∷ es)) [
          | true ↦ λ t. let none = on.entry ∙ none_beside e.0 es t d.0 in record {
            entry = ap (lookup_entry test) turned ∙ found_on (reverse es) (e ∷ []) none ∙ ap (λ r. cond r (Some e) None) t ∙ found true t;
            left = ap (remove_entry test) turned ∙ left_on (reverse es) (e ∷ []) none ∙ ap (λ r. reverse es ++ cond r [] (e ∷ [])) t
                ∙ append-nil (reverse es) ∙ left true t;
          }
          | false ↦ λ t. record {
            entry = ap (lookup_entry test) turned ∙ found_before (reverse es) e t ∙ on.entry ∙ found false t;
            left = ap (remove_entry test) turned ∙ left_before (reverse es) e t ∙ ap (λ l. l ++ e ∷ []) on.left
                ∙ sym (reverse-append (e ∷ []) (remove_entry test es)) ∙ left false t;
          }
        ]) refl

  pub same_value : (es : List (K × X)) → Reversed es → lookup test es ≡ lookup test (reverse es)
  same_value es r = sym (lookup-lookup_entry test es) ∙ ap (option_map (λ e. e.1)) (sym r.entry) ∙ lookup-lookup_entry test (reverse es)

-- Keys that differ do so in any order.
pub distinct_reversed : {K X : Type 0} {eq : K → K → Bool} → IsEquivalence eq → (es : List (K × X)) → IsDistinct eq (keys_of es)
    → IsDistinct eq (keys_of (reverse es))
distinct_reversed {eq} laws es d =
    IsDistinct-IsPermutation eq laws.symm (keys_of es) (keys_of (reverse es)) (IsPermutation-map (λ e. e.0) es (reverse es) (IsPermutation-reverse es)) d
