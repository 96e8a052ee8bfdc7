-- What lies around the gaps at which a range starts and ends.
use Rattle.std.proofs.Common.{◌≡◌, ℕ, suc, ◌+◌, ◌-◌, List, [], ◌∷◌, ◌++◌, length, take, drop, refl, sym, ap, subst, ◌∙◌, cond, arith}
use Rattle.std.proofs.Common.{append_assoc, length-append}
use Rattle.std.specs.Prelude.{Bool, true, false, not}
use Rattle.std.specs.List.{filter}
use Rattle.std.specs.declared.cmp.Ordering.{Ordering}
use Rattle.std.specs.declared.ops.Bound.{Bound}
use Rattle.fc_base.specs.Ascending.{IsAscending}
use Rattle.fc_base.specs.Query.{IsQueryOrder}
use Rattle.fc_base.specs.Ranges.{starts, within}
use Rattle.fc_tree_node.specs.TreePlace.{before_gap_in, after_gap_in}
use Rattle.fc_tree_retain.proofs.Lists.{drop_place, take_place}
use Rattle.fc_tree_cursor.proofs.Bounds.{same_cut, gap_entries}
use Rattle.fc_tree_cursor.specs.Gap.{AreEndsIn}
use Rattle.fc_tree_cursor.specs.Span.{between}
use Rattle.fc_map.proofs.RangeParts.{range_parts, range_outside}
use Rattle.fc_map.specs.Entries.{Map, entries, IsSoundMap}
use Rattle.fc_map.specs.Ranged.{before_range, after_range, outside, replacing}
use Rattle.fc_map.specs.Writing.{starting}

both : {X : Type 0} (p : X → Bool) (s : List X) → length (filter (λ x. not (p x)) s) + length (filter p s) ≡ length s
both p [] = refl
both p (x ∷ s) = go (p x) (both p s)
  where
    go : (b : Bool) → length (filter (λ y. not (p y)) s) + length (filter p s) ≡ length s
        → length (cond (not b) (x ∷ filter (λ y. not (p y)) s) (filter (λ y. not (p y)) s)) + length (cond b (x ∷ filter p s) (filter p s)) ≡ suc (length s)
    go true e = omega (arith, e)
    go false e = omega (arith, e)

-- how many are left, where that many went
pub left_over : (gone new old len : ℕ) → gone + new ≡ old → len ≡ old → len - gone ≡ new
left_over gone new old len e f = omega (arith, e, f)

module _ {K Q V Z : Type 0} {cmp : K → K → Ordering} {order : K → Q → Ordering} (fits : IsQueryOrder cmp order) (lo hi : Bound Q)
    (m : Map K V Z) (front back : List ℕ) where
  -- Two gaps at which a range of a sound map starts and ends.
  pub record AreOfRange : Type 0 where
    pub sound : IsSoundMap m
    pub ascending : IsAscending cmp (entries m)
    pub ends : AreEndsIn m front back
    pub from : length (before_gap_in m front) ≡ (starting order lo hi (entries m)).front
    pub upto : length (before_gap_in m back) ≡ (starting order lo hi (entries m)).back

  -- what they cut the map into
  pub record IsCutIn : Type 0 where
    pub before : before_gap_in m front ≡ before_range order lo (entries m)
    pub amid : between m front back ≡ within order lo hi (entries m)
    pub after : after_gap_in m back ≡ after_range order lo hi (entries m)

  pub cut_in : AreOfRange → IsCutIn
  cut_in r =
      let s = entries m in
      let N = before_range order lo s in
      let W = within order lo hi s in
      let B = after_range order lo hi s in
      let i = length (before_gap_in m front) in
      let j = length (before_gap_in m back) in
      let parts = range_parts fits lo hi s r.ascending in
      let two = both (λ e. starts order lo e.0) s in
      let e = r.from in
      let f = r.upto in
      let n : i ≡ length N = omega (arith, two, e) in
      let more : j ≡ length (N ++ W) = (let l = length-append N W in omega (arith, two, f, l)) in
      let first = same_cut (before_gap_in m front) (after_gap_in m front) N (W ++ B) (sym (gap_entries m front r.sound r.ends.0) ∙ parts) n in
      let last = same_cut (before_gap_in m back) (after_gap_in m back) (N ++ W) B
      (sym (gap_entries m back r.sound r.ends.1) ∙ parts ∙ sym (append_assoc N W B)) more in
      record {
        before = first.0;
        amid = ap (take (j - i)) (ap (drop i) parts ∙ drop_place N (W ++ B) i (sym n))
            ∙ take_place W B (j - i) (let l = length-append N W in omega (arith, more, n, l));
        after = last.1;
      }

  -- what stays between them, in the place of the pairs of the range
  pub replaced : (R : List (K × V) → List (K × V) → Type 0) (new : Map K V Z) (stay : List (K × V)) → AreOfRange
      → R (between m front back) stay → entries new ≡ before_gap_in m front ++ (stay ++ after_gap_in m back)
      → R (within order lo hi (entries m)) stay × (entries new ≡ replacing order lo hi stay (entries m))
  replaced R new stay r a e =
      let c = cut_in r in
      let is = e ∙ ap (λ z. z ++ (stay ++ after_gap_in m back)) c.before ∙ ap (λ z. before_range order lo (entries m) ++ (stay ++ z)) c.after in
      (subst (λ x. R x stay) c.amid a, is)

  -- and where none stays
  pub removed : (new : Map K V Z) (gone : ℕ) → AreOfRange → entries new ≡ before_gap_in m front ++ after_gap_in m back
      → gone + length (entries new) ≡ length (entries m)
      → (entries new ≡ outside order lo hi (entries m)) × (gone ≡ length (within order lo hi (entries m)))
  removed new gone r e l =
      let c = cut_in r in
      let s = entries m in
      let N = before_range order lo s in
      let W = within order lo hi s in
      let B = after_range order lo hi s in
      let is : entries new ≡ N ++ B = e ∙ ap (λ z. z ++ after_gap_in m back) c.before ∙ ap (λ z. N ++ z) c.after in
      let a = ap length (range_parts fits lo hi s r.ascending) ∙ length-append N (W ++ B) in
      let b = length-append W B in
      let d = ap length is ∙ length-append N B in
      (is ∙ range_outside fits lo hi s r.ascending, omega (arith, l, a, b, d))
