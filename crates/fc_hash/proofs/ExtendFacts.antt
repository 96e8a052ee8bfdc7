-- Items put into a map one after another.
use Rattle.std.proofs.Common.{◌≡◌, Bool, cond, List, [], ◌∷◌, ◌++◌, Option, Some, refl, sym, ◌∙◌, ap, subst}
use Rattle.std.specs.Map.{update, update_all}
use Rattle.fc_hash.specs.Pairs.{value_at, IsPut}
use Rattle.fc_hash.specs.Extended.{ArePut, IsPutAll}

module _ {K V : Type 0} (eq : K → K → Bool) where
  put_more : (items ps qs rs : List (K × V)) (e : K × V) (old : Option V) → ArePut eq ps items qs → IsPut eq e.0 e.1 old qs rs
      → ArePut eq ps (items ++ e ∷ []) rs
  put_more [] ps qs rs e old same put = (old, rs, subst (λ l. IsPut eq e.0 e.1 old l rs) same put, refl)
  put_more (x ∷ items) ps qs rs e old first put = (first.0, first.1, first.2, put_more items first.1 qs rs e old first.3 put)

  updated_more : (items : List (K × V)) (f : K → Option V) (e : K × V) (q : K)
      → update_all eq f (items ++ e ∷ []) q ≡ cond (eq e.0 q) (Some e.1) (update_all eq f items q)
  updated_more [] f e q = refl
  updated_more (x ∷ items) f e q = updated_more items (update eq f x.0 (Some x.1)) e q

  -- One item more.
  pub extended_more : (ps items qs rs : List (K × V)) (e : K × V) (old : Option V) → IsPutAll eq ps items qs → IsPut eq e.0 e.1 old qs rs
      → ((q : K) → value_at eq q rs ≡ cond (eq e.0 q) (Some e.1) (value_at eq q qs)) → IsPutAll eq ps (items ++ e ∷ []) rs
  extended_more ps items qs rs e old so put values = record {
    put = put_more items ps qs rs e old so.put put;
    values = λ q. values q ∙ ap (cond (eq e.0 q) (Some e.1)) (so.values q) ∙ sym (updated_more items (λ k. value_at eq k ps) e q);
  }
