-- Which pair a look-up finds, and what a write at it or its removal leaves.
use Rattle.std.proofs.Common.{◌≡◌, Bool, true, false, cond, List, [], ◌∷◌, ◌++◌, Option, None, Some, refl, sym, ap, ◌∙◌, subst, append_assoc}
use Rattle.std.proofs.lemmas.Option.{none-some, same_Some}
use Rattle.std.proofs.lemmas.List.Sorted.{IsPermutation-sym, IsPermutation-trans, IsPermutation-cons, IsPermutation-append_left, IsPermutation-to_front}
use Rattle.std.specs.Prelude.{MatchOption, IfNone}
use Rattle.std.specs.List.Sorted.{IsPermutation}
use Rattle.std.specs.Map.{lookup, set_value, remove_entry}
use Rattle.fc_hash.specs.Pairs.{IsPut, IsTaken}

-- An item may stand before the others as well as among them.
middle : {X : Type 0} (front back : List X) (x : X) → IsPermutation (x ∷ front ++ back) (front ++ x ∷ back)
middle front back x =
    subst (IsPermutation (x ∷ front ++ back)) (append_assoc front (x ∷ []) back)
    (IsPermutation-append_left back (x ∷ front) (front ++ x ∷ []) (IsPermutation-sym (front ++ x ∷ []) (x ∷ front) (IsPermutation-to_front front x)))

module _ {K V : Type 0} (test : K → Bool) where
  -- The pair that a look-up found, between those before it and those after it.
  pub record Found (es : List (K × V)) (w : V) : Type 0 where
    pub front : List (K × V)
    pub key : K
    pub back : List (K × V)
    pub passes : test key ≡ true
    pub is : es ≡ front ++ (key, w) ∷ back
    pub written : (v : V) → set_value test es v ≡ front ++ (key, v) ∷ back
    pub removed : remove_entry test es ≡ front ++ back

  found_first : (e : K × V) (es : List (K × V)) (w : V) (b : Bool) → test e.0 ≡ b → cond b (Some e.1) (lookup test es) ≡ Some w
      → (lookup test es ≡ Some w → Found es w) → Found (e ∷ es) w
  found_first e es w true p h rest = record {
    front = [];
    key = e.0;
    back = es;
    passes = p;
    is = ap (λ x. (e.0, x) ∷ es) (same_Some e.1 w h);
    written = λ v. ap (λ b. cond b ((e.0, v) ∷ es) (e ∷ set_value test es v)) p;
    removed = ap (λ b. cond b es (e ∷ remove_entry test es)) p;
  }
  found_first e es w false p h rest =
      let r = rest h in
      record {
        front = e ∷ r.front;
        key = r.key;
        back = r.back;
        passes = r.passes;
        is = ap (λ l. e ∷ l) r.is;
        written = λ v. ap (λ b. cond b ((e.0, v) ∷ es) (e ∷ set_value test es v)) p ∙ ap (λ l. e ∷ l) (r.written v);
        removed = ap (λ b. cond b es (e ∷ remove_entry test es)) p ∙ ap (λ l. e ∷ l) r.removed;
      }

  pub found : (es : List (K × V)) (w : V) → lookup test es ≡ Some w → Found es w
  found [] w h = absurd (none-some w h)
  found (e ∷ es) w h = found_first e es w (test e.0) refl h (λ q. found es w q)

module _ {K V : Type 0} (eq : K → K → Bool) (k : K) where
  -- The value is put at the key.
  pub put_in : (v : V) (old : Option V) (ps qs : List (K × V)) → old ≡ lookup (eq k) ps
      → MatchOption old (IsPermutation ((k, v) ∷ ps) qs) (λ _. qs ≡ set_value (eq k) ps v) → IsPut eq k v old ps qs
  put_in v None ps qs e put = (sym e, put)
  put_in v (Some w) ps qs e put =
      let f = found (eq k) ps w (sym e) in
      let others = f.front ++ f.back in (
        f.key,
        others,
        (f.passes, subst (IsPermutation ((f.key, w) ∷ others)) (sym f.is) (middle f.front f.back (f.key, w))),
        (f.passes, subst (IsPermutation ((f.key, v) ∷ others)) (sym (put ∙ f.written v)) (middle f.front f.back (f.key, v))),
      )

  -- The pair at the key is taken out.
  pub taken_out : (old : Option V) (ps qs : List (K × V)) → old ≡ lookup (eq k) ps → IsPermutation (remove_entry (eq k) ps) qs → IfNone old (qs ≡ ps)
      → IsTaken eq k old ps qs
  taken_out None ps qs e p same = (sym e, same)
  taken_out (Some w) ps qs e p same =
      let f = found (eq k) ps w (sym e) in
      let others = f.front ++ f.back in
      let left = IsPermutation-sym others qs (subst (λ l. IsPermutation l qs) f.removed p) in (
        f.key,
        (
          f.passes,
          IsPermutation-trans ((f.key, w) ∷ qs) ((f.key, w) ∷ others) ps (IsPermutation-cons (f.key, w) qs others left)
              (subst (IsPermutation ((f.key, w) ∷ others)) (sym f.is) (middle f.front f.back (f.key, w))),
        ),
      )
