-- The first gap that is long enough, among those of a range.
use Rattle.std.proofs.Common.{◌≡◌, ℕ, ◌+◌, ◌-◌, ◌<◌, ◌≤◌, nat_le, Bool, true, false, cond, List, [], ◌∷◌, Option, Some, None, IfSome, IfNone}
use Rattle.std.proofs.Common.{refl, sym, ap, ◌∙◌, subst, arith}
use Rattle.std.specs.Prelude.{◌&&◌, ◌||◌, find}
use Rattle.std.specs.List.{AllByRecursion, list_any}
use Rattle.std.specs.Option.{is_none, option_map}
use Rattle.std.specs.Ordering.{is_le, nat_cmp}
use Rattle.std.specs.declared.cmp.Ordering.TheVariants.{Less}
use Rattle.std.specs.declared.ops.Range.{Range}
use Rattle.std.proofs.lemmas.Bool.Decides.{nat_tests}
use Rattle.fc_laws.proofs.OrderLaws.{number_less, number_at_most}
use Rattle.fc_intervals.specs.FirstGap.{IsFirstRoom, IsRoom}
use Rattle.fc_intervals.specs.Stretches.{AreGaps, AreSeparate, lies, stretch_at}
use Rattle.fc_intervals.specs.declared.stretch.Stretch.{Stretch}
use Rattle.fc_intervals.proofs.Laws.{number_lies}
use Rattle.fc_intervals.proofs.Lists.{and_left, and_right, one_value}
use Rattle.fc_intervals.proofs.Order.{is_less}

from_start : (a b p : ℕ) → lies nat_cmp a b p ≡ true → a ≤ p
from_start a b p h = (number_at_most a p).0 (and_left (is_le (nat_cmp a p)) _ h)

before_end : (a b p : ℕ) → lies nat_cmp a b p ≡ true → p < b
before_end a b p h = (number_less p b).0 (is_less _ (and_right (is_le (nat_cmp a p)) _ h))

is_long : (len n : ℕ) → nat_le len n ≡ true → len ≤ n
is_long len n h = grind (arith, nat_tests)

is_short : (len n : ℕ) → nat_le len n ≡ false → n < len
is_short len n h = grind (arith, nat_tests)

or_else : (a b : Bool) → (a || b) ≡ true → a ≡ false → b ≡ true
or_else true b h k = absurd cc
or_else false b h k = h

or_left : (a b : Bool) → a ≡ true → (a || b) ≡ true
or_left true b h = refl
or_left false b h = absurd cc

or_right : (a b : Bool) → b ≡ true → (a || b) ≡ true
or_right true b h = refl
or_right false b h = h

abbrev holds : ℕ → List (Range ℕ) → Bool
holds p gaps = list_any (λ g. lies nat_cmp g.start g.end p) gaps

-- what is held lies after a point that all ranges start after
held_after : (b p : ℕ) (gaps : List (Range ℕ)) → AllByRecursion (λ g. nat_cmp b g.start ≡ Less) gaps → holds p gaps ≡ true → b < p
held_after b p [] h held = absurd cc
held_after b p (r ∷ gaps) h held = go (lies nat_cmp r.start r.end p) refl (held_after b p gaps h.1)
  where
    go : (t : Bool) → lies nat_cmp r.start r.end p ≡ t → (holds p gaps ≡ true → b < p) → b < p
    go true l more =
        let low = from_start r.start r.end p l in
        let less = (number_less b r.start).0 h.0 in
        omega (arith, low, less)
    go false l more = more (or_else _ _ held l)

module _ (len : ℕ) (some : 0 < len) where
  abbrev long : Range ℕ → Bool
  long g = nat_le len (g.end - g.start)

  -- each of so many points from q on is held
  abbrev AreHeld : ℕ → List (Range ℕ) → Type 0
  AreHeld q gaps = (p : ℕ) → q ≤ p → p < q + len → holds p gaps ≡ true

  -- no point of a range that is too short is one of them, where others follow it at a distance
  module _ (q : ℕ) (r : Range ℕ) (more : List (Range ℕ)) (after : AllByRecursion (λ g. nat_cmp r.end g.start ≡ Less) more)
      (held : AreHeld q (r ∷ more)) (short : r.end - r.start < len) where
    outside_at : (p : ℕ) → (p < r.start → ⊥) → (r.end ≤ p → ⊥) → q ≤ p → p < q + len → ⊥
    outside_at p low high from upto = go (nat_le r.start q) refl
      where
        not_in : (x : ℕ) → lies nat_cmp r.start r.end x ≡ false → q ≤ x → x < q + len → r.end < x
        not_in x out h k = held_after r.end x more after (or_else _ _ (held x h k) out)

        out_low : (x : ℕ) → x < r.start → (t : Bool) → lies nat_cmp r.start r.end x ≡ t → lies nat_cmp r.start r.end x ≡ false
        out_low x h true l = absurd (let a = from_start r.start r.end x l in omega (arith, a, h))
        out_low x h false l = l

        out_high : (x : ℕ) → r.end ≤ x → (t : Bool) → lies nat_cmp r.start r.end x ≡ t → lies nat_cmp r.start r.end x ≡ false
        out_high x h true l = absurd (let a = before_end r.start r.end x l in omega (arith, a, h))
        out_high x h false l = l

        below_end : (x : ℕ) → (r.end ≤ x → ⊥) → x < r.end
        below_end x h = grind (arith, h)

        go : (t : Bool) → nat_le r.start q ≡ t → ⊥
        go true e =
            let a = is_long r.start q e in
            let b = below_end p high in
            let c = not_in r.end (out_high r.end (omega arith) (lies nat_cmp r.start r.end r.end) refl) (omega (arith, b, from)) (omega (arith, a, short)) in
            omega (arith, c)
        go false e =
            let a = is_short r.start q e in
            let b = below_end p high in
            let c = not_in q (out_low q a (lies nat_cmp r.start r.end q) refl) (omega arith) (omega (arith, some)) in
            omega (arith, b, c, from)

    not_there : (p : ℕ) → q ≤ p → p < q + len → lies nat_cmp r.start r.end p ≡ false
    not_there p from upto = go (lies nat_cmp r.start r.end p) refl
      where
        go : (t : Bool) → lies nat_cmp r.start r.end p ≡ t → lies nat_cmp r.start r.end p ≡ false
        go true l = absurd (
            let a = from_start r.start r.end p l in
            let b = before_end r.start r.end p l in
            outside_at p (λ h. omega (arith, a, h)) (λ h. omega (arith, b, h)) from upto
            )
        go false l = l

    held_later : AreHeld q more
    held_later p from upto = or_else _ _ (held p from upto) (not_there p from upto)

  -- so many points that are held lie in one range, as long as they are, which starts where they do or before
  enclosed : (gaps : List (Range ℕ)) → AreSeparate nat_cmp gaps → (q : ℕ) → AreHeld q gaps
      → (g : Range ℕ) × (find long gaps ≡ Some g) × (g.start ≤ q)
  enclosed [] separate q held = absurd (let no = held q (omega arith) (omega (arith, some)) in cc)
  enclosed (r ∷ more) separate q held = go (long r) refl (enclosed more separate.2 q)
    where
      begins : (t : Bool) → lies nat_cmp r.start r.end q ≡ t → r.start ≤ q
      begins true l = from_start r.start r.end q l
      begins false l =
          let a = held_after r.end q more separate.1 (or_else _ _ (held q (omega arith) (omega (arith, some))) l) in
          let b = (number_less r.start r.end).0 separate.0 in
          omega (arith, a, b)

      go : (t : Bool) → long r ≡ t → (AreHeld q more → (g : Range ℕ) × (find long more ≡ Some g) × (g.start ≤ q))
          → (g : Range ℕ) × (find long (r ∷ more) ≡ Some g) × (g.start ≤ q)
      go true e after = (r, ap (λ t. cond t (Some r) (find long more)) e, begins (lies nat_cmp r.start r.end q) refl)
      go false e after =
          let rest = after (held_later q r more separate.1 held (is_short len (r.end - r.start) e)) in
          (rest.0, ap (λ t. cond t (Some r) (find long more)) e ∙ rest.1, rest.2)

  -- the points of one that was found are held, and it is long
  found_held : (gaps : List (Range ℕ)) (g : Range ℕ) → find long gaps ≡ Some g → (p : ℕ) → lies nat_cmp g.start g.end p ≡ true → holds p gaps ≡ true
  found_held [] g e p l = absurd cc
  found_held (r ∷ gaps) g e p l = go (long r) refl (λ f. found_held gaps g f p l)
    where
      go : (t : Bool) → long r ≡ t → (find long gaps ≡ Some g → holds p gaps ≡ true) → holds p (r ∷ gaps) ≡ true
      go true h more =
          let same : r ≡ g = one_value r g (sym (ap (λ t. cond t (Some r) (find long gaps)) h) ∙ e) in
          or_left _ _ (subst (λ (x : Range ℕ). lies nat_cmp x.start x.end p ≡ true) (sym same) l)
      go false h more = or_right _ _ (more (sym (ap (λ t. cond t (Some r) (find long gaps)) h) ∙ e))

  found_long : (gaps : List (Range ℕ)) (g : Range ℕ) → find long gaps ≡ Some g → len ≤ g.end - g.start
  found_long [] g e = absurd cc
  found_long (r ∷ gaps) g e = go (long r) refl (found_long gaps g)
    where
      go : (t : Bool) → long r ≡ t → (find long gaps ≡ Some g → len ≤ g.end - g.start) → len ≤ g.end - g.start
      go true h more =
          let same : r ≡ g = one_value r g (sym (ap (λ t. cond t (Some r) (find long gaps)) h) ∙ e) in
          subst (λ (x : Range ℕ). len ≤ x.end - x.start) same (is_long len (r.end - r.start) h)
      go false h more = more (sym (ap (λ t. cond t (Some r) (find long gaps)) h) ∙ e)

  module _ {V : Type 0} (s : List (ℕ × Stretch ℕ V)) (from to : ℕ) (gaps : List (Range ℕ)) (are : AreGaps nat_cmp s from to gaps) where
    no_value : (x : Option (ℕ × Stretch ℕ V)) → is_none x ≡ true → option_map (λ e. e.1.value) x ≡ None
    no_value None h = refl
    no_value (Some x) h = absurd cc

    no_stretch : (x : Option (ℕ × Stretch ℕ V)) → option_map (λ e. e.1.value) x ≡ None → is_none x ≡ true
    no_stretch None h = refl
    no_stretch (Some x) h = absurd cc

    room_held : (q : ℕ) → IsRoom s from to len q → AreHeld q gaps
    room_held q room p low high =
        are.points p
        ∙ ap (λ t. t && is_none (stretch_at nat_cmp s p))
        (number_lies from to p (let a = room.begins in omega (arith, a, low)) (let a = room.ends in omega (arith, a, high)))
        ∙ no_stretch (stretch_at nat_cmp s p) (room.free p low high)

    no_room : find long gaps ≡ None → (q : ℕ) → ¬ (IsRoom s from to len q)
    no_room none q room =
        let e = enclosed gaps are.separate q (room_held q room) in
        let no : None ≡ Some e.0 = sym none ∙ e.1 in
        absurd cc

    module _ (g : Range ℕ) (found : find long gaps ≡ Some g) where
      both : (p : ℕ) → lies nat_cmp g.start g.end p ≡ true → (lies nat_cmp from to p && is_none (stretch_at nat_cmp s p)) ≡ true
      both p l = sym (are.points p) ∙ found_held gaps g found p l

      inside : (p : ℕ) → g.start ≤ p → p < g.end → lies nat_cmp from to p ≡ true
      inside p low high = and_left (lies nat_cmp from to p) _ (both p (number_lies g.start g.end p low high))

      first_room : IsFirstRoom s from to len g.start
      first_room =
          let size = found_long gaps g found in
          let last = before_end from to (g.end - 1) (inside (g.end - 1) (omega (arith, size, some)) (omega (arith, size, some))) in
          record {
            room = record {
              begins = from_start from to g.start (inside g.start (omega arith) (omega (arith, size, some)));
              ends = omega (arith, size, some, last);
              free = λ p low high. no_value (stretch_at nat_cmp s p)
                  (and_right (lies nat_cmp from to p) _ (both p (number_lies g.start g.end p low (omega (arith, size, some, high)))));
            };
            least = λ other room.
                let e = enclosed gaps are.separate other (room_held other room) in
                let same : e.0 ≡ g = one_value e.0 g (sym e.1 ∙ found) in
                subst (λ (x : Range ℕ). x.start ≤ other) same e.2;
          }

    -- what was found is told by its start alone
    start_is_first : (found : Option (Range ℕ)) → find long gaps ≡ found → (start : ℕ) → Some start ≡ option_map (λ g. g.start) found
        → IsFirstRoom s from to len start
    start_is_first None h start e = absurd cc
    start_is_first (Some g) h start e = let same : start ≡ g.start = cc in subst (IsFirstRoom s from to len) (sym same) (first_room g h)

    none_is_long : (found : Option (Range ℕ)) → None ≡ option_map (λ (g : Range ℕ). g.start) found → found ≡ None
    none_is_long None e = refl
    none_is_long (Some g) e = absurd cc

    pub first_found : (r : Option ℕ) → r ≡ option_map (λ g. g.start) (find long gaps) → IfSome r (IsFirstRoom s from to len)
    first_found None e = tt
    first_found (Some start) e = start_is_first (find long gaps) refl start e

    pub none_found : (r : Option ℕ) → r ≡ option_map (λ g. g.start) (find long gaps) → IfNone r ((q : ℕ) → ¬ (IsRoom s from to len q))
    none_found None e = no_room (none_is_long (find long gaps) e)
    none_found (Some start) e = tt
