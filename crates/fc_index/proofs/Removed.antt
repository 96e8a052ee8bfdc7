-- Rows that are taken out one after another, until a walk by a second key has none.
use Rattle.std.proofs.Common.{◌≡◌, ◌+◌, ◌-◌, ◌<◌, ◌≤◌, Bool, true, false, cond, List, [], ◌∷◌, ◌++◌, Option, Some, None, length}
use Rattle.std.proofs.Common.{refl, sym, ap, ◌∙◌, subst, append_assoc, arith}
use Rattle.std.specs.Prelude.{not, is_some, MatchOption}
use Rattle.std.specs.Borrow.{Bor}
use Rattle.std.specs.List.{AllByRecursion, filter}
use Rattle.std.specs.Option.{option_copied, option_map, option_to_list}
use Rattle.std.specs.Cmp.{IsTotalOrder}
use Rattle.std.specs.declared.cmp.Ordering.{Ordering}
use Rattle.std.specs.declared.ops.Bound.{Bound}
use Rattle.std.proofs.lemmas.List.Elements.{filter-append}
use Rattle.fc_base.specs.Ascending.{IsAscending}
use Rattle.fc_base.specs.OneKey.{cut}
use Rattle.fc_base.specs.Parts.{at, below, above, value_at}
use Rattle.fc_base.proofs.AscendingFacts.{all_map, is_equal, kept}
use Rattle.fc_base.proofs.Laws.{at_between, length_cut_there, parts_joined}
use Rattle.fc_set.specs.Items.{item_at}
use Rattle.fc_index.specs.Rows.{key_then_id, has_key, lies, AreByKey}
use Rattle.fc_index.proofs.Edged.{lies_equal}
use Rattle.fc_index.proofs.Laws.{all_by_key, each_by_key}

-- Of a list, what passes a test and what does not are as many as all.
parted : {X : Type 0} (p : X → Bool) (s : List X) → length (filter p s) + length (filter (λ x. not (p x)) s) ≡ length s
parted p [] = refl
parted p (x ∷ s) =
    let more = parted p s in
    elim (p x) as (λ b. length (cond b (x ∷ filter p s) (filter p s)) + length (cond (not b) (x ∷ filter (λ x. not (p x)) s) (filter (λ x. not (p x)) s))
    ≡ length (x ∷ s)) [
      | true ↦ omega (arith, more)
      | false ↦ omega (arith, more)
    ]

-- Where what is left is what does not pass, as many are gone as pass.
counted : {X : Type 0} (p : X → Bool) (all left : List X) → left ≡ filter (λ x. not (p x)) all
    → (length left ≤ length all) × (length all - length left ≡ length (filter p all))
counted p all left is = let same = ap length is in let many = parted p all in (omega (arith, same, many), omega (arith, same, many))

-- What a walk's step gave by its copy.
pub stepped : {X : Type 0} (o : Option (Bor X)) (walk rest : List X) (x : X) → MatchOption o ((walk ≡ []) × (rest ≡ [])) (λ y. walk ≡ y.now ∷ rest)
    → option_copied o ≡ Some x → walk ≡ x ∷ rest
stepped None walk rest x step is = absurd cc
stepped (Some y) walk rest x step is = let same : y.now ≡ x = cc in step ∙ ap (λ z. z ∷ rest) same

stepped_out : {X : Type 0} (o : Option (Bor X)) (walk rest : List X) → MatchOption o ((walk ≡ []) × (rest ≡ [])) (λ y. walk ≡ y.now ∷ rest)
    → option_copied o ≡ None → walk ≡ []
stepped_out None walk rest step is = step.0
stepped_out (Some y) walk rest step is = absurd cc

module _ {K I R : Type 0} (cmp : K → K → Ordering) (ids : I → I → Ordering) (key : R → K) (total : IsTotalOrder cmp) (totals : IsTotalOrder ids)
    (lo hi : Bound K) (rows : List (I × R)) (ascends : IsAscending ids rows) (walk : List (K × I))
    (by_key : AreByKey cmp ids key (lies cmp lo hi) rows walk) where
  abbrev stays : I × R → Bool
  stays e = not (lies cmp lo hi (key e.1))

  -- each row stands at its id
  all_at : (front back : List (I × R)) → rows ≡ front ++ back → AllByRecursion (λ e. at ids rows e.0 ≡ Some e) back
  all_at front [] is = tt
  all_at front (e ∷ back) is = (
    at_between ids rows front back e.0 e.1 totals ascends is,
    all_at (front ++ e ∷ []) back (is ∙ sym (append_assoc front (e ∷ []) back)),
  )

  -- Where the walk has no item, each row stays.
  all_stay : walk ≡ [] → filter stays rows ≡ rows
  all_stay none = kept stays rows (all_map _ _ (λ e found. go e (ap (option_map (λ x. x.1)) found) (lies cmp lo hi (key e.1)) refl) rows (all_at [] rows refl))
    where
      go : (e : I × R) → value_at ids rows e.0 ≡ Some e.1 → (b : Bool) → lies cmp lo hi (key e.1) ≡ b → stays e ≡ true
      go e held true e_lies =
          let no : true ≡ false = sym (all_by_key cmp ids key total totals (lies cmp lo hi) rows walk by_key e.0 e.1 held e_lies)
          ∙ ap (λ l. is_some (item_at (key_then_id cmp ids) l (key e.1, e.0))) none in absurd cc
      go e held false e_lies = ap not e_lies

  -- Once the walk gives no item, what is left is what stays of all, and as many are gone as do not.
  pub ended : (o : Option (Bor (K × I))) (rest : List (K × I)) → MatchOption o ((walk ≡ []) × (rest ≡ [])) (λ y. walk ≡ y.now ∷ rest)
      → option_copied o ≡ None → (all : List (I × R)) → filter stays rows ≡ filter stays all
      → (rows ≡ filter stays all) × (length rows ≤ length all) × (length all - length rows ≡ length (filter (λ e. lies cmp lo hi (key e.1)) all))
  ended o rest step none all same =
      let left = sym (all_stay (stepped_out o walk rest step none)) ∙ same in
      let many = counted (λ e. lies cmp lo hi (key e.1)) all rows left in (left, many.0, many.1)

  module _ (x : K × I) (rest : List (K × I)) (step : walk ≡ x ∷ rest) where
    -- The row of the walk's first item does not stay: without it, the same do, and there are fewer.
    pub one_removed : (filter stays (cut ids rows x.1) ≡ filter stays rows) × (length (cut ids rows x.1) < length rows)
    one_removed = go (at ids rows x.1) refl first.1
      where
        first : (lies cmp lo hi x.0 ≡ true) × (has_key cmp key (value_at ids rows x.1) x.0 ≡ true)
        first = (subst (AllByRecursion (λ y. (lies cmp lo hi y.0 ≡ true) × (has_key cmp key (value_at ids rows y.1) y.0 ≡ true))) step
            (each_by_key cmp ids key total totals (lies cmp lo hi) rows walk by_key)).0

        go : (o : Option (I × R)) → at ids rows x.1 ≡ o → has_key cmp key (option_map (λ e. e.1) o) x.0 ≡ true
            → (filter stays (cut ids rows x.1) ≡ filter stays rows) × (length (cut ids rows x.1) < length rows)
        go None is h = absurd cc
        go (Some e) is h =
            let earlier = below ids rows x.1 in
            let later = above ids rows x.1 in
            let e_lies : lies cmp lo hi (key e.1) ≡ true = sym (lies_equal cmp total x.0 (key e.1) (is_equal (cmp x.0 (key e.1)) h) lo hi) ∙ first.0 in
            let gone : filter stays (e ∷ later) ≡ filter stays later = ap (λ b. cond (not b) (e ∷ filter stays later) (filter stays later)) e_lies in
            let fewer = length_cut_there ids rows x.1 totals ascends (ap is_some is) in (
              filter-append stays earlier later ∙ ap (λ l. filter stays earlier ++ l) (sym gone) ∙ sym (filter-append stays earlier (e ∷ later))
                  ∙ ap (λ o. filter stays (earlier ++ (option_to_list o ++ later))) (sym is) ∙ ap (filter stays) (parts_joined ids rows x.1 totals ascends),
              omega (arith, fewer),
            )
