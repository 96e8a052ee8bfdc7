-- What std's equality of hashed maps answers.
use Rattle.std.proofs.Common.{◌≡◌, Bool, true, false, cond, ◌&&◌, List, [], ◌∷◌, Option, None, Some, refl, ap, ◌∙◌}
use Rattle.std.specs.List.{list_all}
use Rattle.std.specs.HashMap.{entries_eq}
use Rattle.std.specs.Map.{keys_of, lookup, lookup_entry}
use Rattle.std.specs.Option.{option_eq, option_map}
use Rattle.fc_hash.specs.Pairs.{agree_at, are_equal}

module _ {K V : Type 0} where
  value_of_first : (b : Bool) (p : K × V) (rest : Option (K × V)) → option_map (λ e. e.1) (cond b (Some p) rest)
      ≡ cond b (Some p.1) (option_map (λ e. e.1) rest)
  value_of_first true p rest = refl
  value_of_first false p rest = refl

  value_of_entry : (test : K → Bool) (ps : List (K × V)) → option_map (λ e. e.1) (lookup_entry test ps) ≡ lookup test ps
  value_of_entry test [] = refl
  value_of_entry test (p ∷ ps) = value_of_first (test p.0) p (lookup_entry test ps) ∙ ap (cond (test p.0) (Some p.1)) (value_of_entry test ps)

  by_values : (same : V → V → Bool) (a b : Option (K × V)) → option_eq (λ p q. same p.1 q.1) a b
      ≡ option_eq same (option_map (λ e. e.1) a) (option_map (λ e. e.1) b)
  by_values same None None = refl
  by_values same None (Some q) = refl
  by_values same (Some p) None = refl
  by_values same (Some p) (Some q) = refl

  -- It is ours.
  pub entries_eq_is : (eq : K → K → Bool) (same : V → V → Bool) (ps qs : List (K × V)) → entries_eq eq (λ p q. same p.1 q.1) ps qs ≡ are_equal eq same ps qs
  unfolding entries_eq
  entries_eq_is eq same ps qs =
      let each : (k : K) → option_eq (λ p q. same p.1 q.1) (lookup_entry (eq k) ps) (lookup_entry (eq k) qs) ≡ agree_at eq same ps qs k =
      λ k. by_values same (lookup_entry (eq k) ps) (lookup_entry (eq k) qs) ∙ (λ i. option_eq same (value_of_entry (eq k) ps i) (value_of_entry (eq k) qs i)) in
      λ i. list_all (λ k. each k i) (keys_of ps) && list_all (λ k. each k i) (keys_of qs)
