-- The laws of what stands in a cache, for its callers.
use Rattle.std.proofs.Common.{◌≡◌, ◌-◌, Bool, true, false, cond, List, [], ◌∷◌, Option, None, Some, option_map, refl, sym, ap, ◌∙◌}
use Rattle.std.specs.Cmp.{IsEquivalence}
use Rattle.std.specs.Map.{lookup, lookup_entry, remove_entry}
use Rattle.std.specs.Option.{option_map_or, option_to_list}
use Rattle.lru.proofs.CallerLemmas.{Contains-lookup_entry}
use Rattle.lru.proofs.Pairs.{lookup-lookup_entry}
use Rattle.fc_cache.specs.declared.held.Held.{Held}
use Rattle.fc_cache.specs.Entries.{Cached, IsCached, key_at, rest_within, used_last, with_entry}
use Rattle.fc_cache.specs.Written.{with_value}
use Rattle.fc_cache.proofs.Costs.{held_of, rest_missed}
use Rattle.fc_cache.proofs.Reversed.{found_on, none_left}

module _ {K V : Type 0} {eq : K → K → Bool} where
  module _ (test : K → Bool) (one : (x y : K) → test x ≡ true → test y ≡ eq x y) (c : Cached K V) (cached : IsCached eq c) where
    found_again : (o : Option (K × Held V)) → lookup_entry test c.entries ≡ o → lookup_entry test (option_to_list o) ≡ o
    found_again None none = refl
    found_again (Some e) found = ap (λ b. cond b (Some e) None) (Contains-lookup_entry test c.entries e found).1

    -- An entry that is used is found as before.
    pub found_used : lookup test (used_last test c.entries) ≡ lookup test c.entries
    found_used =
        let others = remove_entry test c.entries in
        sym (lookup-lookup_entry test (used_last test c.entries))
        ∙ ap (option_map held_of) (found_on test others (option_to_list (lookup_entry test c.entries)) (none_left test one c.entries cached.distinct)
        ∙ found_again (lookup_entry test c.entries) refl)
        ∙ lookup-lookup_entry test c.entries

  module _ (laws : IsEquivalence eq) (c : Cached K V) (cached : IsCached eq c) (k : K) where
    same_key : (o : Option (K × Held V)) → lookup_entry (eq k) c.entries ≡ o → eq k (option_map_or (λ e. e.0) o k) ≡ true
    same_key None none = laws.refl k
    same_key (Some e) found = (Contains-lookup_entry (eq k) c.entries e found).1

    -- An entry that is put in is found at its key, whatever was evicted for it.
    pub found_put : (h : Held V) → lookup (eq k) (with_entry eq c k h).entries ≡ Some h
    found_put h =
        let others = remove_entry (eq k) c.entries in
        let here : K × Held V = (key_at (eq k) c.entries k, h) in
        let none = rest_missed (c.budget - h.cost) (eq k) others (none_left (eq k) (laws.congr k) c.entries cached.distinct) in
        sym (lookup-lookup_entry (eq k) (with_entry eq c k h).entries)
        ∙ ap (option_map held_of) (found_on (eq k) (rest_within (c.budget - h.cost) others) (here ∷ []) none
        ∙ ap (λ b. cond b (Some here) None) (same_key (lookup_entry (eq k) c.entries) refl))

-- Where a value is written at a key, and `old` was there, it is found there then; at a key that is missed nothing is.
pub found_written : {K V : Type 0} (test : K → Bool) (w : V) (es : List (K × Held V)) (old : Option V) → old ≡ option_map (λ h. h.value) (lookup test es)
    → option_map (λ h. h.value) (lookup test (with_value test es w)) ≡ option_map (λ _. w) old
found_written {K} {V} test w es old is = found es ∙ ap (option_map (λ _. w)) (sym is)
  where
    value : Held V → V
    value h = h.value

    found : (es : List (K × Held V)) → option_map value (lookup test (with_value test es w)) ≡ option_map (λ _. w) (option_map value (lookup test es))
    found [] = refl
    found (e ∷ es) =
        let here : K × Held V = (e.0, record { value = w; cost = e.1.cost }) in
        (elim (test e.0) as (λ b. test e.0 ≡ b → option_map value (lookup test (cond b (here ∷ es) (e ∷ with_value test es w)))
        ≡ option_map (λ _. w) (option_map value (cond b (Some e.1) (lookup test es)))) [
          | true ↦ λ t. ap (λ b. option_map value (cond b (Some here.1) (lookup test es))) t
          | false ↦ λ t. ap (λ b. option_map value (cond b (Some e.1) (lookup test (with_value test es w)))) t ∙ found es
        ]) refl
