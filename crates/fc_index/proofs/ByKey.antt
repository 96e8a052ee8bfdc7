-- The rows of a walk by a second key, one after another, and those of one key.
use Rattle.std.proofs.Common.{◌≡◌, Bool, true, false, cond, List, [], ◌∷◌, ◌++◌, Option, Some, None, refl, sym, ap, ◌∙◌, subst, append_assoc, length, arith}
use Rattle.std.specs.Prelude.{◌&&◌, ◌↔◌, is_some, IsSome, IsTrue, MatchOption}
use Rattle.std.specs.Borrow.{Bor}
use Rattle.std.specs.Iterator.{MakesProgress, item_count}
use Rattle.std.specs.List.{AllByRecursion}
use Rattle.std.specs.Option.{option_map, option_to_list}
use Rattle.std.specs.Cmp.{IsTotalOrder}
use Rattle.std.specs.Ordering.{is_eq, is_ge, is_le}
use Rattle.std.specs.declared.cmp.Ordering.{Ordering}
use Rattle.std.specs.declared.cmp.Ordering.TheVariants.{Less, Equal, Greater}
use Rattle.std.specs.declared.ops.Bound.TheVariants.{Included}
use Rattle.std.proofs.lemmas.Cmp.{tied_itself}
use Rattle.std.proofs.lemmas.List.{length-append}
use Rattle.fc_base.specs.Parts.{at, value_at}
use Rattle.fc_base.proofs.AscendingFacts.{all_map}
use Rattle.fc_map.specs.Entries.{now_pair}
use Rattle.fc_set.specs.Items.{item_at}
use Rattle.fc_index.specs.ByKey.{rows_of, AreThere, HasRowOf}
use Rattle.fc_index.specs.Rows.{key_then_id, has_key, lies, AreByKey}
use Rattle.fc_index.proofs.Laws.{each_by_key}
use Rattle.fc_index.proofs.Listed.{both_equal}

module _ {I R : Type 0} (ids : I → I → Ordering) (rows : List (I × R)) where
  -- The row at the id of a walk's next item is found.
  found_there : (i : I) (o : Option (Bor I × Bor R)) → now_pair o ≡ at ids rows i → IsSome (at ids rows i) → (p : Bor I × Bor R) × (o ≡ Some p)
      × (option_to_list (at ids rows i) ≡ (p.0.now, p.1.now) ∷ [])
  found_there i None found there = absurd (let no : false ≡ true = ap is_some found ∙ there in cc)
  found_there i (Some p) found there = (p, refl, ap option_to_list (sym found))

  module _ {K : Type 0} (walk rest : List (K × I)) (x : K × I) (o : Option (Bor I × Bor R)) (all : AreThere ids walk rows)
      (found : now_pair o ≡ at ids rows x.1) where
    rows_before : (xs : List (K × I)) → rows_of ids (xs ++ x ∷ []) rows ≡ rows_of ids xs rows ++ option_to_list (at ids rows x.1)
    rows_before [] = go (option_to_list (at ids rows x.1))
      where
        go : (l : List (I × R)) → l ++ [] ≡ l
        go [] = refl
        go (y ∷ l) = ap (λ m. y ∷ m) (go l)
    rows_before (y ∷ xs) = ap (λ l. option_to_list (at ids rows y.1) ++ l) (rows_before xs)
        ∙ sym (append_assoc (option_to_list (at ids rows y.1)) (rows_of ids xs rows) (option_to_list (at ids rows x.1)))

    there_before : (xs : List (K × I)) → AreThere ids (xs ++ x ∷ []) rows → AreThere ids xs rows × IsSome (at ids rows x.1)
    there_before [] a = (tt, a.0)
    there_before (y ∷ xs) a = let on = there_before xs a.1 in ((a.0, on.0), on.1)

    pub back_row : walk ≡ rest ++ x ∷ [] → MatchOption o ((rows_of ids walk rows ≡ []) × (rows_of ids rest rows ≡ []))
        (λ p. rows_of ids walk rows ≡ rows_of ids rest rows ++ (p.0.now, p.1.now) ∷ [])
    back_row step =
        let is = found_there x.1 o found (there_before rest (subst (λ l. AreThere ids l rows) step all)).1 in
        rw is.1 (ap (λ l. rows_of ids l rows) step ∙ rows_before rest ∙ ap (λ l. rows_of ids rest rows ++ l) is.2)

    -- The walk has fewer rows left.
    pub back_goes : (can : List (I × R) → Type 0) → ((s : List (I × R)) → can s) → walk ≡ rest ++ x ∷ []
        → MakesProgress can (item_count (λ s. s)) (rows_of ids walk rows) o (rows_of ids rest rows)
    back_goes can all_can step =
        let is = found_there x.1 o found (there_before rest (subst (λ l. AreThere ids l rows) step all)).1 in
        let given = ap (λ l. rows_of ids l rows) step ∙ rows_before rest ∙ ap (λ l. rows_of ids rest rows ++ l) is.2 in
        let many = ap length given ∙ length-append (rows_of ids rest rows) ((is.0.0.now, is.0.1.now) ∷ []) in
        rw is.1 (record { on = λ f. (all_can _, tt, omega (arith, many)); keeps = all_can _; rests = λ f. tt })

exactly : (o : Ordering) → (is_ge o && is_le o) ≡ is_eq o
exactly Less = refl
exactly Equal = refl
exactly Greater = refl

module _ {K I R : Type 0} (cmp : K → K → Ordering) (ids : I → I → Ordering) (key : R → K) (total : IsTotalOrder cmp) (totals : IsTotalOrder ids)
    (rows : List (I × R)) (walk : List (K × I)) where
  there_of : (o : Option (I × R)) (k : K) → has_key cmp key (option_map (λ e. e.1) o) k ≡ true → IsSome o
  there_of None k e = absurd cc
  there_of (Some x) k e = refl

  -- A row is at each id of a walk by key.
  pub there_by_key : (chosen : K → Bool) → AreByKey cmp ids key chosen rows walk → AreThere ids walk rows
  there_by_key chosen by_key =
      all_map _ _ (λ x e. there_of (at ids rows x.1) x.0 e.1) walk (each_by_key cmp ids key total totals chosen rows walk by_key)

  module _ (q : K) where
    -- What lies from a key up to the same is equal to it.
    pub of_one : AreByKey cmp ids key (lies cmp (Included q) (Included q)) rows walk → AreByKey cmp ids key (λ k. is_eq (cmp k q)) rows walk
    of_one by_key = record {
      ascending = by_key.ascending;
      exact = λ k i. by_key.exact k i ∙ ap (λ b. b && has_key cmp key (value_at ids rows i) k) (exactly (cmp k q));
    }

    module _ (by_key : AreByKey cmp ids key (λ k. is_eq (cmp k q)) rows walk) where
      -- whether the walk has an item of the key and an id
      listed : (i : I) → is_some (item_at (key_then_id cmp ids) walk (q, i)) ≡ has_key cmp key (value_at ids rows i) q
      listed i = by_key.exact q i ∙ ap (λ b. b && has_key cmp key (value_at ids rows i) q) (ap is_eq (tied_itself total q))

      -- the first item is of the key and its id
      at_first : (x : K × I) (rest : List (K × I)) → walk ≡ x ∷ rest → is_some (item_at (key_then_id cmp ids) walk (q, x.1)) ≡ true
      at_first x rest step =
          let chosen = (subst (AllByRecursion (λ y. (is_eq (cmp y.0 q) ≡ true) × (has_key cmp key (value_at ids rows y.1) y.0 ≡ true))) step
          (each_by_key cmp ids key total totals (λ k. is_eq (cmp k q)) rows walk by_key)).0.0 in
          let hit : is_eq (key_then_id cmp ids x (q, x.1)) ≡ true =
          both_equal (cmp x.0 q) (ids x.1 x.1) ∙ (λ i. chosen i && is_eq (tied_itself totals x.1 i)) in
          ap (λ l. is_some (item_at (key_then_id cmp ids) l (q, x.1))) step
          ∙ ap (λ b. is_some (cond b (Some x) (item_at (key_then_id cmp ids) rest (q, x.1)))) hit

      -- The walk has an item just where a row has the key.
      pub has_row : (o : Option (Bor (K × I))) (rest : List (K × I)) (r : Bool) → MatchOption o ((walk ≡ []) × (rest ≡ [])) (λ x. walk ≡ x.now ∷ rest)
          → r ≡ is_some o → IsTrue r ↔ HasRowOf cmp ids key rows q
      has_row None rest r step is = (
        λ yes. absurd (let no : true ≡ false = sym yes ∙ is in cc),
        λ row.
            let no : true ≡ false = sym row.1 ∙ sym (listed row.0) ∙ ap (λ l. is_some (item_at (key_then_id cmp ids) l (q, row.0))) step.0 in absurd cc,
      )
      has_row (Some x) rest r step is = (λ yes. (x.now.1, sym (listed x.now.1) ∙ at_first x.now rest step), λ row. is)
