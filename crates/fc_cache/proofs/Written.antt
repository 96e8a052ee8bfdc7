-- A value that is written at a key, in entries from the one end and from the other.
use Rattle.std.proofs.Common.{◌≡◌, ◌+◌, Bool, true, false, cond, List, [], ◌∷◌, ◌++◌, reverse, Option, None, Some, option_map, refl, sym, ap, ◌∙◌, ◌⊎◌, inl}
use Rattle.std.proofs.lemmas.List.{reverse-append}
use Rattle.std.proofs.lemmas.Option.{none-some}
use Rattle.std.specs.Cmp.{IsEquivalence}
use Rattle.std.specs.List.{IsDistinct}
use Rattle.std.specs.Map.{keys_of, lookup, lookup_entry, remove_entry, set_value}
use Rattle.std.specs.Option.{option_map_or, option_to_list}
use Rattle.lru.proofs.CallerLemmas.{Contains-lookup_entry}
use Rattle.lru.proofs.Pairs.{lookup-lookup_entry}
use Rattle.lru.specs.LruCache.{promoted}
use Rattle.fc_cache.specs.declared.held.Held.{Held}
use Rattle.fc_cache.specs.Entries.{total_cost, used_last}
use Rattle.fc_cache.specs.Written.{with_value}
use Rattle.fc_cache.proofs.Costs.{total_cons}
use Rattle.fc_cache.proofs.Reversed.{distinct_reversed, none_beside, none_left, reversed}

-- A name under which a value is lent, with what its lender ends as by one function or by an equal one.
pub lent_alike : {N F X : Type 0} {n : N} {f f' : F} → f ≡ f' → ◌≡◌ {A = (N × F) ⊎ X} (inl (n, f)) (inl (n, f'))
lent_alike {n} p = ap (λ f. inl (n, f)) p

module _ {K V : Type 0} (test : K → Bool) (w : V) where
  -- What is held has this value, at the cost that it had.
  abbrev pub written : Held V → Held V
  written h = record { value = w; cost = h.cost }

  -- It changes no cost.
  pub cost_written : (es : List (K × Held V)) → total_cost (with_value test es w) ≡ total_cost es
  cost_written [] = refl
  cost_written (e ∷ es) =
      let apart : (x : K × Held V) (xs : List (K × Held V)) → total_cost (x ∷ xs) ≡ x.1.cost + total_cost xs = λ x xs. total_cons x xs in
      elim (test e.0) as (λ b. total_cost (cond b ((e.0, written e.1) ∷ es) (e ∷ with_value test es w)) ≡ total_cost (e ∷ es)) [
        | true ↦ apart (e.0, written e.1) es ∙ sym (apart e es)
        | false ↦ apart e (with_value test es w) ∙ ap (λ n. e.1.cost + n) (cost_written es) ∙ sym (apart e es)
      ]

  -- The first entries in which no key passes stay.
  pub written_on : (xs ys : List (K × Held V)) → lookup_entry test xs ≡ None → with_value test (xs ++ ys) w ≡ xs ++ with_value test ys w
  written_on [] ys h = refl
  written_on (x ∷ xs) ys h =
      (elim (test x.0) as (λ b. cond b (Some x) (lookup_entry test xs) ≡ None
      → cond b ((x.0, written x.1) ∷ (xs ++ ys)) (x ∷ with_value test (xs ++ ys) w) ≡ x ∷ xs ++ with_value test ys w) [
        | true ↦ λ n. absurd (none-some x (sym n))
        | false ↦ λ n. ap (λ l. x ∷ l) (written_on xs ys n)
      ]) h

  written_before : (xs : List (K × Held V)) (e : K × Held V) → test e.0 ≡ false → with_value test (xs ++ e ∷ []) w ≡ with_value test xs w ++ e ∷ []
  written_before [] e off = ap (λ b. cond b ((e.0, written e.1) ∷ []) (e ∷ [])) off
  written_before (x ∷ xs) e off =
      elim (test x.0) as (λ b. cond b ((x.0, written x.1) ∷ (xs ++ e ∷ [])) (x ∷ with_value test (xs ++ e ∷ []) w)
      ≡ cond b ((x.0, written x.1) ∷ xs) (x ∷ with_value test xs w) ++ e ∷ []) [
        | true ↦ refl
        | false ↦ ap (λ l. x ∷ l) (written_before xs e off)
      ]

  written_at : (e : K × Held V) → test e.0 ≡ true → with_value test (e ∷ []) w ≡ (e.0, written e.1) ∷ []
  written_at e on = ap (λ b. cond b ((e.0, written e.1) ∷ []) (e ∷ [])) on

  module _ {eq : K → K → Bool} (one : (x y : K) → test x ≡ true → test y ≡ eq x y) where
    -- What is written from the one end is written from the other.
    pub written_reversed : (es : List (K × Held V)) → IsDistinct eq (keys_of es) → (h : Held V) → lookup test es ≡ Some h
        → reverse (set_value test es (written h)) ≡ with_value test (reverse es) w
    unfolding IsDistinct
    written_reversed [] d h found = absurd (none-some h found)
    written_reversed (e ∷ es) d h found =
        let turned : with_value test (reverse (e ∷ es)) w ≡ with_value test (reverse es ++ e ∷ []) w =
        ap (λ l. with_value test l w) (reverse-append (e ∷ []) es) in
        (elim (test e.0) as (λ b. test e.0 ≡ b → cond b (Some e.1) (lookup test es) ≡ Some h
        → reverse (cond b ((e.0, written h) ∷ es) (e ∷ set_value test es (written h))) ≡ with_value test (reverse (e ∷ es)) w) [
          | true ↦ λ t here.
              let none = (reversed test one es d.1).entry ∙ none_beside test one e.0 es t d.0 in
              let same : e.1 ≡ h = cc in
              reverse-append ((e.0, written h) ∷ []) es ∙ ap (λ k. reverse es ++ (e.0, written k) ∷ []) (sym same)
              ∙ sym (turned ∙ written_on (reverse es) (e ∷ []) none ∙ ap (λ l. reverse es ++ l) (written_at e t))
          | false ↦ λ t there.
              reverse-append (e ∷ []) (set_value test es (written h)) ∙ ap (λ l. l ++ e ∷ []) (written_reversed es d.1 h there)
              ∙ sym (turned ∙ written_before (reverse es) e t)
        ]) refl found

    put_first : (o : Option (K × Held V)) (es : List (K × Held V)) → lookup_entry test es ≡ o → IsDistinct eq (keys_of (reverse es))
        → IsDistinct eq (keys_of es) → (h : Held V) → option_map (λ e. e.1) o ≡ Some h
        → reverse (set_value test (option_map_or (λ e. e ∷ remove_entry test es) o es) (written h))
        ≡ with_value test (remove_entry test (reverse es) ++ option_to_list o) w
    put_first None es at back d h found = absurd (none-some h found)
    put_first (Some e) es at back d h found =
        let on : test e.0 ≡ true = (Contains-lookup_entry test es e at).1 in
        let same : e.1 ≡ h = cc in
        let rest = remove_entry test (reverse es) in
        ap (λ b. reverse (cond b ((e.0, written h) ∷ remove_entry test es) (e ∷ set_value test (remove_entry test es) (written h)))) on
        ∙ reverse-append ((e.0, written h) ∷ []) (remove_entry test es)
        ∙ (λ i. sym (reversed test one es d).left i ++ (e.0, written (sym same i)) ∷ [])
        ∙ sym (written_on rest (e ∷ []) (none_left test one (reverse es) back) ∙ ap (λ l. rest ++ l) (written_at e on))

    -- The same of the entry that is then used last.
    pub written_last : IsEquivalence eq → (es : List (K × Held V)) → IsDistinct eq (keys_of es) → (h : Held V) → lookup test es ≡ Some h
        → reverse (set_value test (promoted test es) (written h)) ≡ with_value test (used_last test (reverse es)) w
    written_last laws es d h found =
        put_first (lookup_entry test es) es refl (distinct_reversed laws es d) d h (lookup-lookup_entry test es ∙ found)
        ∙ ap (λ o. with_value test (remove_entry test (reverse es) ++ option_to_list o) w) (sym (reversed test one es d).entry)
