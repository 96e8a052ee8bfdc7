-- What the kit's cache does with its entries, as entries in the order of their last use.
use Rattle.std.proofs.Common.{◌≡◌, ℕ, ◌≤◌, Bool, List, [], ◌∷◌, ◌++◌, length, reverse, take, Option, None, Some, refl, sym, ap, ◌∙◌}
use Rattle.std.proofs.lemmas.List.{append-nil, reverse-append, take_all}
use Rattle.std.specs.Map.{lookup_entry, remove_entry}
use Rattle.std.specs.Map.Iter.{TakesFirst}
use Rattle.std.specs.Option.{option_map_or, option_to_list}
use Rattle.lru.specs.LruCache.{promoted}
use Rattle.fc_cache.specs.declared.held.Held.{Held}
use Rattle.fc_cache.specs.Entries.{used_last, key_at}
use Rattle.fc_cache.proofs.Reversed.{Reversed, left_missed}

module _ {K V : Type 0} (test : K → Bool) (es : List (K × Held V)) (r : Reversed test es) where
  used_at : (o : Option (K × Held V)) → lookup_entry test es ≡ o
      → reverse (option_map_or (λ e. e ∷ remove_entry test es) o es) ≡ reverse (remove_entry test es) ++ option_to_list o
  used_at None none = ap reverse (sym (left_missed test es none)) ∙ sym (append-nil (reverse (remove_entry test es)))
  used_at (Some e) found = reverse-append (e ∷ []) (remove_entry test es)

  -- What is promoted is used last.
  pub used_promoted : reverse (promoted test es) ≡ used_last test (reverse es)
  used_promoted =
      used_at (lookup_entry test es) refl
      ∙ (λ i. sym r.left i ++ option_to_list (sym r.entry i))

  put_at : (o : Option (K × Held V)) → lookup_entry test es ≡ o → (n : ℕ) → length es ≤ n → (k : K) (h : Held V)
      → reverse (option_map_or (λ e. (e.0, h) ∷ remove_entry test es) o ((k, h) ∷ take n es))
      ≡ reverse (remove_entry test es) ++ (option_map_or (λ e. e.0) o k, h) ∷ []
  put_at None none n fits k h =
      reverse-append ((k, h) ∷ []) (take n es)
      ∙ ap (λ l. reverse l ++ (k, h) ∷ []) (take_all n es fits ∙ sym (left_missed test es none))
  put_at (Some e) found n fits k h = reverse-append ((e.0, h) ∷ []) (remove_entry test es)

  -- What is put in is used last, at the key that was there.
  pub used_put : (n : ℕ) → length es ≤ n → (k : K) (h : Held V)
      → reverse (option_map_or (λ e. (e.0, h) ∷ remove_entry test es) (lookup_entry test es) ((k, h) ∷ take n es))
      ≡ remove_entry test (reverse es) ++ (key_at test (reverse es) k, h) ∷ []
  used_put n fits k h =
      put_at (lookup_entry test es) refl n fits k h
      ∙ (λ i. sym r.left i ++ (option_map_or (λ e. e.0) (sym r.entry i) k, h) ∷ [])

-- What is taken first, by other names.
pub taken_alike : {X : Type 0} {s s' t t' : List X} {o o' : Option X} → s' ≡ s → o' ≡ o → t' ≡ t → TakesFirst (λ x. x) s o t → TakesFirst (λ x. x) s' o' t'
taken_alike p q r h = rw (p, q, r) h
