-- The laws for callers of a map of stretches.
use Rattle.std.proofs.Common.{◌≡◌, ◌⊎◌, ◌↔◌, ℕ, ◌<◌, ◌≤◌, List, [], ◌∷◌, Bool, true, false, cond, Option, Some, None, IsTrue, IfSome}
use Rattle.std.proofs.Common.{inl, inr, refl, sym, ap, ◌∙◌, subst}
use Rattle.std.specs.Prelude.{◌&&◌, ◌||◌}
use Rattle.std.specs.Iterator.{YieldsFirst}
use Rattle.std.specs.List.{AllByRecursion}
use Rattle.std.specs.Option.{is_none, option_map}
use Rattle.std.specs.Cmp.{IsTotalOrder}
use Rattle.std.specs.Ordering.{is_lt, is_le, nat_cmp}
use Rattle.std.specs.declared.cmp.Ordering.{Ordering}
use Rattle.std.specs.declared.cmp.Ordering.TheVariants.{Less}
use Rattle.std.specs.declared.ops.Range.{Range}
use Rattle.std.proofs.lemmas.Cmp.{tied_itself}
use Rattle.fc_laws.specs.Words.{IsExact}
use Rattle.fc_laws.proofs.OrderLaws.{number_less, number_at_most, number_total}
use Rattle.fc_intervals.specs.Stretches.{AreGaps, IsKept, IsWritten, lies, meets, overlapping, stretch_at, value_at_point}
use Rattle.fc_intervals.specs.declared.stretch.Stretch.{Stretch}
use Rattle.fc_intervals.proofs.Lists.{and_left, and_right, found_in}
use Rattle.fc_intervals.proofs.Order.{is_less, le_from_not_lt, le_less}

-- Where copies are exact, what is kept is one and the same.
pub kept_exact : {V : Type 0} (same : V → V → Type 0) (old new : Option V) → IsExact same → IsKept same old new → new ≡ old
kept_exact same None None exact h = refl
kept_exact same None (Some y) exact h = absurd h
kept_exact same (Some x) None exact h = absurd h
kept_exact same (Some x) (Some y) exact h = elim h as (λ _. Some y ≡ Some x) [
  | inl e ↦ ap Some e
  | inr s ↦ ap Some (exact x y s)
]

-- Where points are numbers and copies exact, a point outside of a range that was written has what it had.
pub numbers_outside : {V : Type 0} (same : V → V → Type 0) → IsExact same → (a b : ℕ) (v : Option V) (old new : List (ℕ × Stretch ℕ V))
    → IsWritten nat_cmp same a b v old new → (p : ℕ) → (p < a) ⊎ (b ≤ p) → value_at_point nat_cmp new p ≡ value_at_point nat_cmp old p
numbers_outside same exact a b v old new w p h = elim h as (λ _. value_at_point nat_cmp new p ≡ value_at_point nat_cmp old p) [
  | inl l ↦ w.before p ((number_less p a).1 l)
  | inr l ↦ kept_exact same (value_at_point nat_cmp old p) (value_at_point nat_cmp new p) exact (w.after p ((number_at_most b p).1 l))
]

-- A number that is not below one and is below another lies in the range from the one to the other.
pub number_lies : (a b p : ℕ) → a ≤ p → p < b → lies nat_cmp a b p ≡ true
number_lies a b p low high = ap (λ t. t && is_lt (nat_cmp p b)) ((number_at_most a p).1 low) ∙ ap is_lt ((number_less p b).1 high)

-- And each number within the range has what was written.
pub numbers_inside : {V : Type 0} (same : V → V → Type 0) (a b : ℕ) (v : Option V) (old new : List (ℕ × Stretch ℕ V))
    → IsWritten nat_cmp same a b v old new → (p : ℕ) → a ≤ p → p < b → value_at_point nat_cmp new p ≡ v
numbers_inside same a b v old new w p low high = w.inside p (number_lies a b p low high)

no_value : {K V : Type 0} (x : Option (K × Stretch K V)) → is_none x ≡ true → option_map (λ e. e.1.value) x ≡ None
no_value None h = refl
no_value (Some x) h = absurd cc

module _ {K V : Type 0} (cmp : K → K → Ordering) where
  -- No stretch covers a point without a value.
  pub none_covers : (s : List (K × Stretch K V)) (p : K) → value_at_point cmp s p ≡ None → AllByRecursion (λ e. lies cmp e.0 e.1.end p ≡ false) s
  none_covers [] p h = tt
  none_covers (e ∷ s) p h = go (lies cmp e.0 e.1.end p) refl (none_covers s p)
    where
      go : (t : Bool) → lies cmp e.0 e.1.end p ≡ t
          → (value_at_point cmp s p ≡ None → AllByRecursion (λ x. lies cmp x.0 x.1.end p ≡ false) s)
          → (lies cmp e.0 e.1.end p ≡ false) × AllByRecursion (λ x. lies cmp x.0 x.1.end p ≡ false) s
      go true l more = absurd (
          let no : Some e.1.value ≡ None = sym (ap (λ t. option_map (λ (x : K × Stretch K V). x.1.value) (cond t (Some e) (stretch_at cmp s p))) l) ∙ h in
          cc
          )
      go false l more = (
        l,
        more (sym (ap (λ t. option_map (λ (x : K × Stretch K V). x.1.value) (cond t (Some e) (stretch_at cmp s p))) l) ∙ h),
      )

  -- A point that had no value has none after a cut.
  pub none_after_cut : IsTotalOrder cmp → (same : V → V → Type 0) (a b : K) (old new : List (K × Stretch K V)) → IsWritten cmp same a b None old new
      → (p : K) → value_at_point cmp old p ≡ None → value_at_point cmp new p ≡ None
  none_after_cut o same a b old new w p none = go (is_lt (cmp p a)) refl
    where
      kept_none : (x y : Option V) → IsKept same x y → x ≡ None → y ≡ None
      kept_none x None h e = refl
      kept_none None (Some y) h e = absurd h
      kept_none (Some x) (Some y) h e = absurd cc

      from_start : is_le (cmp a p) ≡ true → (t : Bool) → is_lt (cmp p b) ≡ t → value_at_point cmp new p ≡ None
      from_start low true e = w.inside p (ap (λ t. t && is_lt (cmp p b)) low ∙ e)
      from_start low false e = kept_none (value_at_point cmp old p) (value_at_point cmp new p) (w.after p (le_from_not_lt o p b e)) none

      go : (t : Bool) → is_lt (cmp p a) ≡ t → value_at_point cmp new p ≡ None
      go true e = w.before p (is_less _ e) ∙ none
      go false e = from_start (le_from_not_lt o p a e) (is_lt (cmp p b)) refl

  -- No point of a gap has a value.
  pub none_in_gap : (s : List (K × Stretch K V)) (from to : K) (gap : Range K) (more : List (Range K)) → AreGaps cmp s from to (gap ∷ more)
      → (p : K) → lies cmp gap.start gap.end p ≡ true → value_at_point cmp s p ≡ None
  none_in_gap s from to gap more are p l =
      no_value (stretch_at cmp s p) (and_right (lies cmp from to p) _ (sym (are.points p) ∙ first (lies cmp gap.start gap.end p) _ l))
    where
      first : (a b : Bool) → a ≡ true → (a || b) ≡ true
      first true b h = refl
      first false b h = absurd cc

-- And no number of one.
pub no_number_in_gap : {V : Type 0} (s : List (ℕ × Stretch ℕ V)) (a b : ℕ) (gap : Range ℕ) (more : List (Range ℕ)) → AreGaps nat_cmp s a b (gap ∷ more)
    → (p : ℕ) → gap.start ≤ p → p < gap.end → value_at_point nat_cmp s p ≡ None
no_number_in_gap s a b gap more are p low high = none_in_gap nat_cmp s a b gap more are p (number_lies gap.start gap.end p low high)

-- As the walk over the gaps gives it first.
pub no_number_in_next : {V : Type 0} (s : List (ℕ × Stretch ℕ V)) (a b : ℕ) (gaps more : List (Range ℕ)) (r : Option (Range ℕ)) → AreGaps nat_cmp s a b gaps
    → YieldsFirst (λ l. l) gaps r more → IfSome r (λ gap. (p : ℕ) → gap.start ≤ p → p < gap.end → value_at_point nat_cmp s p ≡ None)
no_number_in_next s a b gaps more None are h = tt
no_number_in_next s a b gaps more (Some gap) are h = no_number_in_gap s a b gap more (subst (AreGaps nat_cmp s a b) h are)

-- A number that had no value has none after a cut.
pub no_number_after_cut : {V : Type 0} (same : V → V → Type 0) (a b : ℕ) (old new : List (ℕ × Stretch ℕ V)) → IsWritten nat_cmp same a b None old new
    → (p : ℕ) → value_at_point nat_cmp old p ≡ None → value_at_point nat_cmp new p ≡ None
no_number_after_cut = none_after_cut nat_cmp number_total

module _ {K V : Type 0} (cmp : K → K → Ordering) (o : IsTotalOrder cmp) (from to : K) (e : K × Stretch K V) where
  -- A stretch overlaps a range where a point lies in both.
  pub meets_at : (p : K) → lies cmp from to p ≡ true → lies cmp e.0 e.1.end p ≡ true → meets cmp from to e ≡ true
  meets_at p h l =
      let low = and_left (is_le (cmp from p)) _ h in
      let high : cmp p to ≡ Less = is_less _ (and_right (is_le (cmp from p)) _ h) in
      let start = and_left (is_le (cmp e.0 p)) _ l in
      let end : cmp p e.1.end ≡ Less = is_less _ (and_right (is_le (cmp e.0 p)) _ l) in
      ap (λ t. t && (is_lt (cmp from e.1.end) && is_lt (cmp e.0 to))) (ap is_lt (le_less o from p to low high))
      ∙ ap (λ t. t && is_lt (cmp e.0 to)) (ap is_lt (le_less o from p e.1.end low end))
      ∙ ap is_lt (le_less o e.0 p to start high)

  -- And where a stretch that is not empty overlaps it, there is such a point.
  pub meeting_point : cmp e.0 e.1.end ≡ Less → meets cmp from to e ≡ true → (p : K) × (lies cmp from to p ≡ true) × (lies cmp e.0 e.1.end p ≡ true)
  meeting_point whole h = go (is_lt (cmp e.0 from)) refl
    where
      range : is_lt (cmp from to) ≡ true
      range = and_left (is_lt (cmp from to)) _ h

      more : (is_lt (cmp from e.1.end) && is_lt (cmp e.0 to)) ≡ true
      more = and_right (is_lt (cmp from to)) _ h

      go : (t : Bool) → is_lt (cmp e.0 from) ≡ t → (p : K) × (lies cmp from to p ≡ true) × (lies cmp e.0 e.1.end p ≡ true)
      go true less = (
        from,
        ap (λ t. t && is_lt (cmp from to)) (ap is_le (tied_itself o from)) ∙ range,
        ap (λ t. t && is_lt (cmp from e.1.end)) (ap is_le (is_less _ less)) ∙ and_left (is_lt (cmp from e.1.end)) _ more,
      )
      go false not_less = (
        e.0,
        ap (λ t. t && is_lt (cmp e.0 to)) (le_from_not_lt o e.0 from not_less) ∙ and_right (is_lt (cmp from e.1.end)) _ more,
        ap (λ t. t && is_lt (cmp e.0 e.1.end)) (ap is_le (tied_itself o e.0)) ∙ ap is_lt whole,
      )

module _ {K V : Type 0} (cmp : K → K → Ordering) (o : IsTotalOrder cmp) (from to : K) (s : List (K × Stretch K V)) where
  -- Where no stretch overlaps a range, each point of it is free.
  pub none_overlapped : overlapping cmp s from to ≡ [] → (p : K) → lies cmp from to p ≡ true → value_at_point cmp s p ≡ None
  none_overlapped none p h = ap (option_map (λ (x : K × Stretch K V). x.1.value))
      (sym (found_in (λ e. lies cmp e.0 e.1.end p) (meets cmp from to) (λ e l. meets_at cmp o from to e p h l) s) ∙ ap (λ l. stretch_at cmp l p) none)

  -- As `overlaps` answers it.
  pub free_where_none : (answer : Bool) → (IsTrue answer ↔ ¬ (overlapping cmp s from to ≡ [])) → answer ≡ false
      → (p : K) → lies cmp from to p ≡ true → value_at_point cmp s p ≡ None
  free_where_none answer means none = none_overlapped (empty (overlapping cmp s from to) (λ h. let yes : true ≡ false = sym (means.1 h) ∙ none in cc))
    where
      empty : (t : List (K × Stretch K V)) → ¬ (¬ (t ≡ [])) → t ≡ []
      empty [] h = refl
      empty (e ∷ t) h = absurd (h (λ (no : e ∷ t ≡ []). cc))

-- Where `overlaps` answers that no stretch overlaps a range of numbers, none of them has a value.
pub numbers_free : {V : Type 0} (a b : ℕ) (s : List (ℕ × Stretch ℕ V)) (answer : Bool) → (IsTrue answer ↔ ¬ (overlapping nat_cmp s a b ≡ []))
    → answer ≡ false → (p : ℕ) → a ≤ p → p < b → value_at_point nat_cmp s p ≡ None
numbers_free a b s answer means none p low high = free_where_none nat_cmp number_total a b s answer means none p (number_lies a b p low high)
