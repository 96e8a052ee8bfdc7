-- The laws of what is said of all pairs of a list, once a pair is put or cut: a test of each, a sum over them, and what a filter keeps; what stands at a
-- query that a cut key is not equal to; and of the first and the last pair.
-- A caller names one on a function, as `#[tactic(auto, using(fc_laws::proofs::Laws::sum_cut))]`, or cites it in an answer.
use Rattle.std.proofs.Common.{◌≡◌, ℕ, ◌+◌, Bool, true, false, cond, List, [], ◌∷◌, ◌++◌, slice_get, All, Option, Some, None, refl, sym, ap, ◌∙◌}
use Rattle.std.proofs.Common.{subst, arith}
use Rattle.std.specs.Prelude.{unwrap_or, string_bytes}
use Rattle.std.specs.List.{AllByRecursion, filter, sum_by}
use Rattle.std.specs.Option.{option_map, option_or, option_to_list}
use Rattle.std.specs.Cmp.{IsTotalOrder, tied_itself}
use Rattle.std.specs.String.{string_cmp, string_cmp_total}
use Rattle.std.specs.Cmp.Lexicographic.{nat_list_cmp_total}
use Rattle.std.specs.Ordering.{is_lt, is_eq, is_gt, is_ge, ordering_reverse}
use Rattle.std.specs.declared.cmp.Ordering.{Ordering}
use Rattle.std.specs.declared.cmp.Ordering.TheVariants.{Less, Equal, Greater}
use Rattle.std.specs.declared.string.String.{String}
use Rattle.std.proofs.lemmas.List.Elements.{filter-append, All-append, All-cons, All-filter}
use Rattle.std.proofs.lemmas.List.Folds.{find-append}
use Rattle.std.proofs.lemmas.List.Sums.{sum_by-append}
use Rattle.fc_base.specs.Ascending.{IsAscending}
use Rattle.fc_base.specs.Halves.{not_below}
use Rattle.fc_base.specs.OneKey.{put, cut}
use Rattle.fc_base.specs.Parts.{below, above, at, value_at}
use Rattle.fc_base.specs.Query.{IsQueryOrder, text_order}
use Rattle.fc_base.specs.Viewed.{viewed}
use Rattle.fc_base.proofs.AscendingFacts.{at_key}
use Rattle.fc_base.proofs.Laws.{parts_joined, cut_absent, at_put_other_query, at_first, value_at_put_query}

-- The order of a `String` by a text fits that of `String`s.
pub text_order_fits : {A : Type 0} → IsQueryOrder (λ (s t : String A). text_order s (string_bytes t)) text_order
text_order_fits = viewed nat_list_cmp_total string_bytes (λ text. text)

-- At a text stands the value that was put at a `String` of that text.
pub value_at_text_put : {A V : Type 0} (s : List (String A × V)) (k : String A) (v : V) (text : List ℕ) → string_bytes k ≡ text
    → value_at text_order (put string_cmp s k v) text ≡ Some v
value_at_text_put s k v text e =
    let same = subst (λ t. text_order k t ≡ Equal) e (tied_itself string_cmp_total k) in
    value_at_put_query string_cmp text_order s k v text string_cmp_total text_order_fits same

-- where there is no value there is no pair
no_pair : {A B : Type 0} (o : Option (A × B)) → option_map (λ e. e.1) o ≡ None → o ≡ None
no_pair None h = refl
no_pair (Some x) h = absurd cc

module _ {X : Type 0} (p q : X → Bool) where
  -- filters in turn, in either order
  swapped : (s : List X) → filter p (filter q s) ≡ filter q (filter p s)
  swapped [] = refl
  swapped (x ∷ s) = go (p x) (q x) refl refl (swapped s)
    where
      go : (a b : Bool) → p x ≡ a → q x ≡ b → filter p (filter q s) ≡ filter q (filter p s)
          → filter p (cond b (x ∷ filter q s) (filter q s)) ≡ filter q (cond a (x ∷ filter p s) (filter p s))
      go true true e f h = rw (e, f) (ap (λ t. x ∷ t) h)
      go true false e f h = rw f h
      go false true e f h = rw e h
      go false false e f h = h

module _ {K Q V : Type 0} (cmp : K → Q → Ordering) (p : K × V → Bool) where
  -- A filter of a list from which a pair was cut is the filtered list with that cut.
  pub filter_cut : (s : List (K × V)) (k : Q) → filter p (cut cmp s k) ≡ cut cmp (filter p s) k
  filter_cut s k = filter-append p (below cmp s k) (above cmp s k) ∙ (λ i. swapped p (λ e. is_lt (cmp e.0 k)) s i ++ swapped p (λ e. is_gt (cmp e.0 k)) s i)

module _ {K V : Type 0} (cmp : K → K → Ordering) where
  -- The pair that stands at a key once this value is put there.
  abbrev put_pair : List (K × V) → K → V → K × V
  put_pair s k v = (unwrap_or (option_map (λ e. e.0) (at cmp s k)) k, v)

  -- A filter that leaves the put pair out is the filtered list without a pair at that key, and one that keeps it has it between what is below and above.
  pub filter_put_out : (p : K × V → Bool) (s : List (K × V)) (k : K) (v : V) → p (unwrap_or (option_map (λ e. e.0) (at cmp s k)) k, v) ≡ false
      → filter p (put cmp s k v) ≡ cut cmp (filter p s) k
  filter_put_out p s k v out = filter-append p (below cmp s k) (put_pair s k v ∷ above cmp s k)
      ∙ rw out (sym (filter-append p (below cmp s k) (above cmp s k)) ∙ filter_cut cmp p s k)

  pub filter_put_kept : (p : K × V → Bool) (s : List (K × V)) (k : K) (v : V) → p (unwrap_or (option_map (λ e. e.0) (at cmp s k)) k, v) ≡ true
      → filter p (put cmp s k v) ≡ below cmp (filter p s) k ++ (unwrap_or (option_map (λ e. e.0) (at cmp s k)) k, v) ∷ above cmp (filter p s) k
  filter_put_kept p s k v kept = filter-append p (below cmp s k) (put_pair s k v ∷ above cmp s k)
      ∙ rw kept (λ i. swapped p (λ e. is_lt (cmp e.0 k)) s i ++ put_pair s k v ∷ swapped p (λ e. is_gt (cmp e.0 k)) s i)

  -- What holds of all pairs holds of those that a cut leaves, and, where it holds of the pair that is put, of all once it is there.
  pub all_cut : (P : K × V → Type 0) (s : List (K × V)) (k : K) → All P s → All P (cut cmp s k)
  all_cut P s k a = All-append P (below cmp s k) (above cmp s k) (All-filter _ P s a) (All-filter _ P s a)

  pub all_put : (P : K × V → Type 0) (s : List (K × V)) (k : K) (v : V) → All P s → P (unwrap_or (option_map (λ e. e.0) (at cmp s k)) k, v)
      → All P (put cmp s k v)
  all_put P s k v a h = All-append P (below cmp s k) (put_pair s k v ∷ above cmp s k) (All-filter _ P s a)
      (All-cons P (put_pair s k v) (above cmp s k) h (All-filter _ P s a))

  module _ (f : K × V → ℕ) (s : List (K × V)) (k : K) where
    -- the sum over what is below a key, a pair and what is above
    around : (e : K × V) → sum_by f (below cmp s k ++ e ∷ above cmp s k) ≡ sum_by f (cut cmp s k) + f e
    around e =
        let a = sum_by-append f (below cmp s k) (above cmp s k) in
        let b = sum_by-append f (below cmp s k) (e ∷ above cmp s k) in
        let c = sum_by-append f (e ∷ []) (above cmp s k) in
        omega (arith, a, b, c)

    -- Without the pair at a key a sum over the pairs is less by what that pair adds to it.
    pub sum_cut : (e : K × V) → IsTotalOrder cmp → IsAscending cmp s → at cmp s k ≡ Some e → sum_by f (cut cmp s k) + f e ≡ sum_by f s
    sum_cut e total a there =
        let parts : below cmp s k ++ (option_to_list (at cmp s k) ++ above cmp s k) ≡ s = parts_joined cmp s k total a in
        let around_is : below cmp s k ++ e ∷ above cmp s k ≡ s = ap (λ o. below cmp s k ++ (option_to_list o ++ above cmp s k)) (sym there) ∙ parts in
        sym (around e) ∙ ap (sum_by f) around_is

    -- Where a pair is put, what it adds to a sum takes the place of what the pair at the key added; where none is there, the sum is greater by it.
    pub sum_put : (v : V) (e : K × V) → IsTotalOrder cmp → IsAscending cmp s → at cmp s k ≡ Some e → sum_by f (put cmp s k v) + f e ≡ sum_by f s + f (e.0, v)
    sum_put v e total a there =
        let put_is : sum_by f (put cmp s k v) ≡ sum_by f (cut cmp s k) + f (e.0, v) = around (put_pair s k v) ∙ rw there refl in
        let cut_is = sum_cut e total a there in
        omega (arith, put_is, cut_is)

    pub sum_put_new : (v : V) → IsTotalOrder cmp → IsAscending cmp s → at cmp s k ≡ None → sum_by f (put cmp s k v) ≡ sum_by f s + f (k, v)
    sum_put_new v total a none = around (put_pair s k v) ∙ rw none (ap (λ t. sum_by f t + f (k, v)) (cut_absent cmp s k total a none))

module _ {K V : Type 0} (cmp : K → K → Ordering) (f : V → ℕ) (s : List (K × V)) (k : K) (total : IsTotalOrder cmp) (a : IsAscending cmp s) where
  -- The same of a sum over the values, by the value that stands at the key.
  pub sum_values_cut : (old : V) → value_at cmp s k ≡ Some old → sum_by (λ e. f e.1) (cut cmp s k) + f old ≡ sum_by (λ e. f e.1) s
  sum_values_cut old there = go (at cmp s k) refl there
    where
      go : (o : Option (K × V)) → at cmp s k ≡ o → option_map (λ e. e.1) o ≡ Some old → sum_by (λ e. f e.1) (cut cmp s k) + f old ≡ sum_by (λ e. f e.1) s
      go None e h = absurd cc
      go (Some x) e h = let same : x.1 ≡ old = cc in subst (λ v. sum_by (λ e. f e.1) (cut cmp s k) + f v ≡ sum_by (λ e. f e.1) s) same
          (sum_cut cmp (λ e. f e.1) s k x total a e)

  pub sum_values_cut_absent : value_at cmp s k ≡ None → sum_by (λ e. f e.1) (cut cmp s k) ≡ sum_by (λ e. f e.1) s
  sum_values_cut_absent none = ap (sum_by (λ e. f e.1)) (cut_absent cmp s k total a (no_pair (at cmp s k) none))

  pub sum_values_put : (old v : V) → value_at cmp s k ≡ Some old → sum_by (λ e. f e.1) (put cmp s k v) + f old ≡ sum_by (λ e. f e.1) s + f v
  sum_values_put old v there = go (at cmp s k) refl there
    where
      go : (o : Option (K × V)) → at cmp s k ≡ o → option_map (λ e. e.1) o ≡ Some old
          → sum_by (λ e. f e.1) (put cmp s k v) + f old ≡ sum_by (λ e. f e.1) s + f v
      go None e h = absurd cc
      go (Some x) e h = let same : x.1 ≡ old = cc in subst (λ w. sum_by (λ e. f e.1) (put cmp s k v) + f w ≡ sum_by (λ e. f e.1) s + f v) same
          (sum_put cmp (λ e. f e.1) s k v x total a e)

  pub sum_values_put_new : (v : V) → value_at cmp s k ≡ None → sum_by (λ e. f e.1) (put cmp s k v) ≡ sum_by (λ e. f e.1) s + f v
  sum_values_put_new v none = sum_put_new cmp (λ e. f e.1) s k v total a (no_pair (at cmp s k) none)

module _ {K Q V : Type 0} (cmp : K → K → Ordering) (order : K → Q → Ordering) (total : IsTotalOrder cmp) (fits : IsQueryOrder cmp order) where
  -- a pair that a query is not equal to is as good as none
  skipped : (front back : List (K × V)) (x : K × V) (q : Q) → ¬ (order x.0 q ≡ Equal) → at order (front ++ x ∷ back) q ≡ at order (front ++ back) q
  skipped front back x q other = find-append _ front (x ∷ back) ∙ ap (option_or (at order front q)) (go (order x.0 q) refl) ∙ sym (find-append _ front back)
    where
      go : (r : Ordering) → order x.0 q ≡ r → cond (is_eq r) (Some x) (at order back q) ≡ at order back q
      go Less i = refl
      go Equal i = absurd (other i)
      go Greater i = refl

  -- At a query that the cut key is not equal to stands what stood there.
  pub at_cut_other_query : (s : List (K × V)) (k : K) (q : Q) → ¬ (order k q ≡ Equal) → at order (cut cmp s k) q ≡ at order s q
  at_cut_other_query [] k q other = refl
  at_cut_other_query (e ∷ s) k q other =
      let l = e ∷ s in
      let x = put_pair cmp l k e.1 in
      let apart : ¬ (order x.0 q ≡ Equal) = λ i. other (fits.same q x.0 k i ∙ total.antisymm k x.0 ∙ ap ordering_reverse (at_key cmp total k l)) in
      sym (skipped (below cmp l k) (above cmp l k) x q apart) ∙ at_put_other_query cmp order l k e.1 q total fits other

  pub value_at_cut_other_query : (s : List (K × V)) (k : K) (q : Q) → ¬ (order k q ≡ Equal) → value_at order (cut cmp s k) q ≡ value_at order s q
  value_at_cut_other_query s k q other = ap (option_map (λ e. e.1)) (at_cut_other_query s k q other)

module _ {K Q V : Type 0} (cmp : K → K → Ordering) (order : K → Q → Ordering) (fits : IsQueryOrder cmp order) where
  -- none that follow a pair which is not below a query are below it
  none_below : (q : Q) (e : K × V) (s : List (K × V)) → is_ge (order e.0 q) ≡ true → AllByRecursion (λ y. cmp e.0 y.0 ≡ Less) s → not_below order s q ≡ s
  none_below q e [] h a = refl
  none_below q e (y ∷ s) h a = rw (over (order e.0 q) refl h) (ap (λ t. y ∷ t) (none_below q e s h a.1))
    where
      over : (r : Ordering) → order e.0 q ≡ r → is_ge r ≡ true → order y.0 q ≡ Greater
      over Less i n = absurd cc
      over Equal i n = fits.after q e.0 y.0 a.0 i
      over Greater i n = fits.upper q e.0 y.0 a.0 i

  -- Where the first pair is not below a query, no pair is; where it is below, the others are left of those from there on.
  pub not_below_all : (s rest : List (K × V)) (e : K × V) (q : Q) → IsAscending cmp s → s ≡ e ∷ rest → is_ge (order e.0 q) ≡ true → not_below order s q ≡ s
  not_below_all s rest e q a is h =
      let b = subst (IsAscending cmp) is a in
      subst (λ t. not_below order t q ≡ t) (sym is) (rw h (ap (λ t. e ∷ t) (none_below q e rest h b.0)))

  pub not_below_rest : (s rest : List (K × V)) (e : K × V) (q : Q) → s ≡ e ∷ rest → is_ge (order e.0 q) ≡ false → not_below order s q ≡ not_below order rest q
  not_below_rest s rest e q is h = subst (λ t. not_below order t q ≡ not_below order rest q) (sym is) (rw h refl)

module _ {K V : Type 0} (cmp : K → K → Ordering) (total : IsTotalOrder cmp) where
  -- The first pair stands at its key, and so does the last.
  pub at_first_pair : (s : List (K × V)) (e : K × V) → IsAscending cmp s → slice_get s 0 ≡ Some e → at cmp s e.0 ≡ Some e
  at_first_pair [] e a h = absurd cc
  at_first_pair (x ∷ s) e a h = let same : x ≡ e = cc in subst (λ y. at cmp (x ∷ s) y.0 ≡ Some y) same (at_first cmp (x ∷ s) s x.0 x.1 total a refl)
