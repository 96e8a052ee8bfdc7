-- The pairs of a tree between two gaps, some of which do not stay.
use Rattle.std.proofs.Common.{◌≡◌, ℕ, ◌+◌, ◌-◌, ◌^◌, ◌<◌, List, [], ◌∷◌, ◌++◌, length, take, drop, refl, sym, ap, subst, ◌∙◌, arith, cond}
use Rattle.std.proofs.Common.{append_assoc, Some, None}
use Rattle.std.specs.Prelude.{Bool, true, false, ⊤}
use Rattle.std.specs.Bool.{MatchBool}
use Rattle.std.specs.declared.cmp.Ordering.{Ordering}
use Rattle.std.proofs.lemmas.List.{length-append}
use Rattle.fc_base.specs.Ascending.{IsAscending}
use Rattle.fc_tree_node.specs.declared.node.Node.{Node}
use Rattle.fc_tree_node.specs.Node.{pairs_of}
use Rattle.fc_tree_node.specs.Tree.{Map, entries, IsSoundMap}
use Rattle.fc_tree_node.specs.TreePlace.{before_gap_in, after_gap_in}
use Rattle.fc_tree_cursor.specs.Gap.{AreEndsIn}
use Rattle.fc_tree_cursor.specs.Span.{between}
use Rattle.fc_tree_cursor.proofs.Bounds.{gap_entries}
use Rattle.fc_tree_retain.specs.Retained.{RetainsInTurn}
use Rattle.fc_tree_retain.specs.Filtered.{FiltersPair}
use Rattle.fc_tree_retain.specs.Stretch.{IsRangeFiltered}
use Rattle.fc_tree_retain.proofs.Kept.{kept_ascending}
use Rattle.fc_tree_retain.proofs.Lists.{take_place, drop_place, longer}
use Rattle.fc_tree_retain.proofs.Turns.{retains_join, retains_as}

module _ {K V Z : Type 0} where
  -- what is between
  between_is : (m : Map K V Z) (front back : List ℕ) (xs : List (K × V)) → entries m ≡ before_gap_in m back ++ after_gap_in m back
      → entries m ≡ before_gap_in m front ++ (xs ++ after_gap_in m back) → between m front back ≡ xs
  between_is m front back xs b e =
      let bf = before_gap_in m front in
      let bb = before_gap_in m back in
      let ab = after_gap_in m back in
      let s = ap length (sym b ∙ e) in
      let l = length-append bb ab in
      let r = length-append bf (xs ++ ab) in
      let q = length-append xs ab in
      let n : length bb - length bf ≡ length xs = omega arith in
      ap (λ ys. take (length bb - length bf) (drop (length bf) ys)) e ∙ ap (take (length bb - length bf)) (drop_place bf (xs ++ ab) (length bf) refl)
      ∙ take_place xs ab (length bb - length bf) (sym n)

  pub stretch_parts : (m : Map K V Z) (front back : List ℕ) → IsSoundMap m → AreEndsIn m front back
      → entries m ≡ before_gap_in m front ++ (between m front back ++ after_gap_in m back)
  stretch_parts m front back sound ends =
      let f = gap_entries m front sound ends.0 in
      let b = gap_entries m back sound ends.1 in
      let r = longer (before_gap_in m back) (after_gap_in m back) (before_gap_in m front) (after_gap_in m front) (sym b ∙ f) ends.2 in
      let e : entries m ≡ before_gap_in m front ++ (r.more ++ after_gap_in m back) = b ∙ ap (λ xs. xs ++ after_gap_in m back) r.first
      ∙ append_assoc (before_gap_in m front) r.more (after_gap_in m back) in
      e ∙ ap (λ xs. before_gap_in m front ++ (xs ++ after_gap_in m back)) (sym (between_is m front back r.more b e))

  -- the tree whose root was filtered
  pub rooted : {S : Type 0} (R : S → K × V → S → V → Bool → Type 0) (s t : S) (front back : List ℕ) (m new : Map K V Z) (root mid : Node K V Z)
      → m ≡ Some root → IsSoundMap m → AreEndsIn m front back → IsRangeFiltered R s t front back root mid → entries new ≡ pairs_of mid
      → (stay : List (K × V)) × RetainsInTurn R s (between m front back) t stay × (entries new ≡ before_gap_in m front ++ (stay ++ after_gap_in m back))
  rooted R s t front back None new root mid is sound ends e n = absurd cc
  rooted R s t front back (Some r) new root mid is sound ends e n =
      let same : root ≡ r = cc in
      let x = subst (λ o. IsRangeFiltered R s t front back o mid) same e in
      let b = between_is (Some r) front back x.asked (gap_entries (Some r) back sound ends.1) x.before in
      (x.stay, subst (λ xs. RetainsInTurn R s xs t x.stay) (sym b) x.filtered, n ∙ x.after)

  -- where none stays
  pub none_between : (m new : Map K V Z) (front back : List ℕ) (stay : List (K × V)) → stay ≡ []
      → entries new ≡ before_gap_in m front ++ (stay ++ after_gap_in m back) → entries new ≡ before_gap_in m front ++ after_gap_in m back
  none_between m new front back stay z e = e ∙ ap (λ xs. before_gap_in m front ++ (xs ++ after_gap_in m back)) z

module _ {K V : Type 0} where
  -- whether it was asked or not, what stays is in order
  abbrev Any : Unit {0} → K × V → Unit {0} → V → Bool → Type 0
  Any s e t w b = Unit {0}

  all_stay : (xs : List (K × V)) → RetainsInTurn Any tt xs tt xs
  all_stay [] = (refl, refl)
  all_stay (x ∷ xs) = (tt, x.1, true, xs, tt, all_stay xs, refl)

  pub stretch_ascending : {S : Type 0} (R : S → K × V → S → V → Bool → Type 0) (cmp : K → K → Ordering) (s t : S) (xs ys stay : List (K × V))
      (before mid after : List (K × V)) → xs ≡ before ++ (mid ++ after) → RetainsInTurn R s mid t stay → ys ≡ before ++ (stay ++ after)
      → IsAscending cmp xs → IsAscending cmp ys
  stretch_ascending R cmp s t xs ys stay before mid after e r f a =
      let any = retains_as R Any (λ _. tt) (λ s t e w b q. tt) mid stay s t r in
      let whole = retains_join Any before (mid ++ after) before (stay ++ after) tt tt tt (all_stay before)
      (retains_join Any mid after stay after tt tt tt any (all_stay after)) in
      subst (IsAscending cmp) (sym f) (kept_ascending Any cmp _ _ tt tt whole (subst (IsAscending cmp) e a))

-- none stays where each answer is that it does not
pub none_stays : {S K V : Type 0} (xs ys : List (K × V)) (s t : S) → RetainsInTurn (FiltersPair (λ _ _ _ _ b. b ≡ false) (λ _ _ _. ⊤)) s xs t ys → ys ≡ []
none_stays [] ys s t r = r.1
none_stays (e ∷ es) ys s t (u, w, b, zs, (v, a, m), rs, q) = q ∙ ap (λ c. cond c ((e.0, w) ∷ zs) zs) a ∙ none_stays es zs u t rs

-- a state with a number of those that do not stay
module _ {T S K V : Type 0} (part : T → S) (gone : T → ℕ) (asked : S → K × V → S → V → Bool → Type 0) (given : S → K × V → S → Type 0) where
  abbrev pub CountsAsked : T → K × V → T → V → Bool → Type 0
  CountsAsked s e t w b = asked (part s) e (part t) w b × (gone t ≡ gone s)

  abbrev pub CountsGiven : T → K × V → T → Type 0
  CountsGiven s e t = given (part s) e (part t) × (gone s + 1 < 2 ^ 64 → gone t ≡ gone s + 1)

  pub counted : (xs ys : List (K × V)) (s t : T) → RetainsInTurn (FiltersPair CountsAsked CountsGiven) s xs t ys → gone s + length xs < 2 ^ 64
      → gone t + length ys ≡ gone s + length xs
  counted [] ys s t r le = let e = ap gone r.0 in let f = ap length r.1 in omega arith
  counted (e ∷ es) ys s t (u, w, b, zs, (v, a, m), rs, q) le = go b m (ap length q) a.1 (counted es zs u t rs)
    where
      go : (b : Bool) → MatchBool b (u ≡ v) (CountsGiven v (e.0, w) u) → length ys ≡ length (cond b ((e.0, w) ∷ zs) zs) → gone v ≡ gone s
          → (gone u + length es < 2 ^ 64 → gone t + length zs ≡ gone u + length es) → gone t + length ys ≡ gone s + length (e ∷ es)
      go true m l k f = let g = ap gone m in let r = f (omega arith) in omega arith
      go false m l k f = let g = m.1 (omega arith) in let r = f (omega arith) in omega arith

  -- without it
  pub uncounted : (xs ys : List (K × V)) (s t : T) → RetainsInTurn (FiltersPair CountsAsked CountsGiven) s xs t ys
      → RetainsInTurn (FiltersPair asked given) (part s) xs (part t) ys
  uncounted = retains_as (FiltersPair CountsAsked CountsGiven) (FiltersPair asked given) part step
    where
      step : (s t : T) (e : K × V) (w : V) (b : Bool) → FiltersPair CountsAsked CountsGiven s e t w b → FiltersPair asked given (part s) e (part t) w b
      step s t e w true (u, a, m) = (part u, a.0, ap part m)
      step s t e w false (u, a, m) = (part u, a.0, m.0)
