-- The laws of lists of pairs that are joined: what stands at each key, and that no other ascending list answers so.
-- A caller names one on a function, as `#[tactic(auto, using(fc_laws::proofs::Laws::value_at_joined))]`, or cites it in an answer.
use Rattle.std.proofs.Common.{◌≡◌, cond, List, [], ◌∷◌, ◌++◌, Option, Some, None, refl, sym, ap, ◌∙◌}
use Rattle.std.specs.Prelude.{unwrap_or}
use Rattle.std.specs.Option.{option_map, option_or}
use Rattle.std.specs.Cmp.{IsTotalOrder}
use Rattle.std.specs.Ordering.{is_lt, is_eq, ordering_reverse}
use Rattle.std.specs.declared.cmp.Ordering.{Ordering}
use Rattle.std.specs.declared.cmp.Ordering.TheVariants.{Less, Equal, Greater}
use Rattle.std.proofs.lemmas.List.Folds.{find-append}
use Rattle.fc_base.specs.Ascending.{IsAscending}
use Rattle.fc_base.specs.Joined.{placed, joined}
use Rattle.fc_base.specs.OneKey.{cut}
use Rattle.fc_base.specs.Parts.{below, above, at, value_at}
use Rattle.fc_base.specs.Query.{IsQueryOrder}
use Rattle.fc_base.specs.Viewed.{own_order}
use Rattle.fc_base.proofs.AscendingFacts.{at_key}
use Rattle.fc_base.proofs.Laws.{at_query, at_put, at_put_other_query, at_cut}
use Rattle.fc_base.proofs.JoinedLaws.{ascending_joined}
use Rattle.fc_tree_append.proofs.StableLaws.{none_after, same_pairs}
use Rattle.fc_laws.proofs.NeighbourLaws.{below_cut, above_cut}

module _ {K Q V : Type 0} (cmp : K → K → Ordering) (order : K → Q → Ordering) (total : IsTotalOrder cmp) (fits : IsQueryOrder cmp order) (q : Q) where
  module _ (s : List (K × V)) (e : K × V) where
    -- a pair is placed as it is put where its key was cut, and stands there
    placed_there : order e.0 q ≡ Equal → at order (placed cmp s e) q ≡ Some e
    placed_there same =
        at_query cmp order (placed cmp s e) e.0 q fits same
        ∙ ap (λ l. at cmp l e.0) (sym (rw (below_cut cmp s e.0, above_cut cmp s e.0, at_cut cmp s e.0) refl))
        ∙ at_put cmp (cut cmp s e.0) e.0 e.1 total ∙ ap (λ o. Some (unwrap_or (option_map (λ (x : K × V). x.0) o) e.0, e.1)) (at_cut cmp s e.0)

    -- one that a query is not equal to is as good as none
    passed : (x : K × V) → ¬ (order x.0 q ≡ Equal) → at order (below cmp s e.0 ++ x ∷ above cmp s e.0) q ≡ at order (cut cmp s e.0) q
    passed x other =
        find-append _ (below cmp s e.0) (x ∷ above cmp s e.0) ∙ ap (option_or (at order (below cmp s e.0) q)) (go (order x.0 q) refl)
        ∙ sym (find-append _ (below cmp s e.0) (above cmp s e.0))
      where
        go : (r : Ordering) → order x.0 q ≡ r → cond (is_eq r) (Some x) (at order (above cmp s e.0) q) ≡ at order (above cmp s e.0) q
        go Less i = refl
        go Equal i = absurd (other i)
        go Greater i = refl

    placed_elsewhere : ¬ (order e.0 q ≡ Equal) → at order (placed cmp s e) q ≡ at order s q
    placed_elsewhere other =
        let x : K × V = (unwrap_or (option_map (λ (y : K × V). y.0) (at cmp s e.0)) e.0, e.1) in
        let apart : ¬ (order x.0 q ≡ Equal) = λ i. other (fits.same q x.0 e.0 i ∙ total.antisymm e.0 x.0 ∙ ap ordering_reverse (at_key cmp total e.0 s)) in
        passed e other ∙ sym (passed x apart) ∙ at_put_other_query cmp order s e.0 e.1 q total fits other

module _ {K V : Type 0} where
  either : (o p : Option (K × V)) → option_map (λ e. e.1) (option_or o p) ≡ option_or (option_map (λ e. e.1) o) (option_map (λ e. e.1) p)
  either None p = refl
  either (Some x) p = refl

module _ {K Q V : Type 0} (cmp : K → K → Ordering) (order : K → Q → Ordering) where
  -- At a query stands in joined lists what stands there in the second, or else in the first.
  pub at_joined_query : (s t : List (K × V)) (q : Q) → IsTotalOrder cmp → IsQueryOrder cmp order → IsAscending cmp t
      → at order (joined cmp s t) q ≡ option_or (at order t q) (at order s q)
  at_joined_query s [] q total fits a = refl
  at_joined_query s (e ∷ t) q total fits a = at_joined_query (placed cmp s e) t q total fits a.1 ∙ go (order e.0 q) refl
    where
      go : (r : Ordering) → order e.0 q ≡ r → option_or (at order t q) (at order (placed cmp s e) q)
          ≡ option_or (cond (is_eq r) (Some e) (at order t q)) (at order s q)
      go Less i = ap (option_or (at order t q)) (placed_elsewhere cmp order total fits q s e (λ h. absurd (let no = sym i ∙ h in cc)))
      go Equal i = rw (none_after cmp order total fits q e t (ap is_lt i) a.0) (placed_there cmp order total fits q s e i)
      go Greater i = ap (option_or (at order t q)) (placed_elsewhere cmp order total fits q s e (λ h. absurd (let no = sym i ∙ h in cc)))

  -- At a query stands in joined lists the value that stands there in the second, or else in the first.
  pub value_at_joined_query : (s t : List (K × V)) (q : Q) → IsTotalOrder cmp → IsQueryOrder cmp order → IsAscending cmp t
      → value_at order (joined cmp s t) q ≡ option_or (value_at order t q) (value_at order s q)
  value_at_joined_query s t q total fits a = ap (option_map (λ e. e.1)) (at_joined_query s t q total fits a) ∙ either (at order t q) (at order s q)

module _ {K V : Type 0} (cmp : K → K → Ordering) where
  -- At a key stands in joined lists what stands there in the second, or else in the first.
  pub at_joined : (s t : List (K × V)) (k : K) → IsTotalOrder cmp → IsAscending cmp t → at cmp (joined cmp s t) k ≡ option_or (at cmp t k) (at cmp s k)
  at_joined s t k total a = at_joined_query cmp cmp s t k total (own_order total) a

  -- At a key stands in joined lists the value that stands there in the second, or else in the first.
  pub value_at_joined : (s t : List (K × V)) (k : K) → IsTotalOrder cmp → IsAscending cmp t
      → value_at cmp (joined cmp s t) k ≡ option_or (value_at cmp t k) (value_at cmp s k)
  value_at_joined s t k total a = value_at_joined_query cmp cmp s t k total (own_order total) a

  -- An ascending list that answers so at each key is the joined one.
  pub joined_is : (s t u : List (K × V)) → IsTotalOrder cmp → IsAscending cmp s → IsAscending cmp t → IsAscending cmp u
      → ((k : K) → at cmp u k ≡ option_or (at cmp t k) (at cmp s k)) → u ≡ joined cmp s t
  joined_is s t u total a b c answers =
      same_pairs cmp u (joined cmp s t) total c (ascending_joined cmp s t total a) (λ k. answers k ∙ sym (at_joined s t k total b))
