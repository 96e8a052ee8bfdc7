-- A heap, while what stands in it is moved, put in or taken out: places and slots as functions.
use Rattle.std.proofs.Common.{◌≡◌, ◌≢◌, ℕ, zero, suc, ◌+◌, ◌*◌, ◌/◌, ◌<◌, ◌≤◌, ◌⊎◌, List, [], ◌∷◌, ◌++◌, length, get_or, set}
use Rattle.std.proofs.Common.{if◌then◌else◌, Option, Some, None, refl, sym, ap, subst, ◌∙◌, inl, inr, arith}
use Rattle.std.proofs.lemmas.Bool.{cases_eq, cases_lt, eq-eqb, ne_eqb}
use Rattle.std.proofs.lemmas.List.{get_or-set_same, get_or-set_other, get_or_past}
use Rattle.std.proofs.lemmas.Option.{slice_get_past}
use Rattle.std.specs.Cmp.{IsTotalOrder}
use Rattle.std.specs.List.{slice_get}
use Rattle.std.specs.Option.{IfNone}
use Rattle.std.specs.declared.cmp.Ordering.{Ordering}
use Rattle.fc_timers.specs.declared.timer.Armed.{Armed}
use Rattle.fc_timers.specs.declared.slot.Due.{Due}
use Rattle.fc_timers.specs.Heap.{IsAbove, IsAtMost, IsFirstBelow, IsFirstOf, IsIndexed, IsOrdered, IsOrderedBut, IsOver, IsUnder, own_due, put_at}
use Rattle.fc_timers.proofs.Turns.{due_first_chained, due_first_itself}

pub within_some : {X : Type 0} (xs : List (Option X)) (k : ℕ) → get_or xs k None ≢ None → k < length xs
within_some xs k some = elim (cases_lt k (length xs)) [ inl within ↦ within | inr after ↦ absurd (some (get_or_past xs k None after)) ]

pub pointwise : {X : Type 0} (f g : ℕ → X) → ((k : ℕ) → f k ≡ g k) → f ≡ g
pointwise f g e i k = e k i

module _ {X : Type 0} (f : ℕ → X) (p : ℕ) (x : X) where
  pub put_here : (k : ℕ) → k ≡ p → put_at f p x k ≡ x
  put_here k e = ap (λ b. if b then x else f k) (eq-eqb k p e)

  pub put_other : (k : ℕ) → k ≢ p → put_at f p x k ≡ f k
  put_other k apart = ap (λ b. if b then x else f k) (ne_eqb k p apart)

-- A list with an item set is a function with a value put.
pub set_put : {X : Type 0} (xs : List X) (p : ℕ) (x d : X) → p < length xs → (k : ℕ) → get_or (set xs p x) k d ≡ put_at (λ j. get_or xs j d) p x k
set_put xs p x d within k = elim (cases_eq k p) [
  | inl here ↦ ap (λ j. get_or (set xs p x) j d) here ∙ get_or-set_same xs p x d within ∙ sym (put_here (λ j. get_or xs j d) p x k here)
  | inr other ↦ get_or-set_other xs p k x d other ∙ sym (put_other (λ j. get_or xs j d) p x k other)
]

module _ {X : Type 0} where
  get_set_same : (xs : List X) (p : ℕ) (x : X) → p < length xs → slice_get (set xs p x) p ≡ Some x
  get_set_same [] p x within = absurd (omega arith)
  get_set_same (y ∷ xs) zero x within = refl
  get_set_same (y ∷ xs) (suc p) x within = get_set_same xs p x (omega arith)

  get_set_other : (xs : List X) (p k : ℕ) (x : X) → k ≢ p → slice_get (set xs p x) k ≡ slice_get xs k
  get_set_other [] p k x other = refl
  get_set_other (y ∷ xs) zero zero x other = absurd (other refl)
  get_set_other (y ∷ xs) zero (suc k) x other = refl
  get_set_other (y ∷ xs) (suc p) zero x other = refl
  get_set_other (y ∷ xs) (suc p) (suc k) x other = get_set_other xs p k x (λ same. other (ap suc same))

  pub get_set : (xs : List X) (p : ℕ) (x : X) → p < length xs → (k : ℕ) → slice_get (set xs p x) k ≡ put_at (slice_get xs) p (Some x) k
  get_set xs p x within k = elim (cases_eq k p) [
    | inl here ↦ ap (slice_get (set xs p x)) here ∙ get_set_same xs p x within ∙ sym (put_here (slice_get xs) p (Some x) k here)
    | inr other ↦ get_set_other xs p k x other ∙ sym (put_other (slice_get xs) p (Some x) k other)
  ]

  pub get_last : (xs : List X) (x : X) → slice_get (xs ++ x ∷ []) (length xs) ≡ Some x
  get_last [] x = refl
  get_last (y ∷ xs) x = get_last xs x

  pub get_others : (xs : List X) (x : X) (k : ℕ) → k ≢ length xs → slice_get (xs ++ x ∷ []) k ≡ slice_get xs k
  get_others [] x zero other = absurd (other refl)
  get_others [] x (suc k) other = refl
  get_others (y ∷ xs) x zero other = refl
  get_others (y ∷ xs) x (suc k) other = get_others xs x k (λ same. other (ap suc same))

  pub get_within : (xs : List X) (k : ℕ) → k < length xs → (x : X) × (slice_get xs k ≡ Some x)
  get_within [] k within = absurd (omega arith)
  get_within (x ∷ xs) zero within = (x, refl)
  get_within (x ∷ xs) (suc k) within = get_within xs k (omega arith)

module _ {T : Type 0} (cmp : T → T → Ordering) where
  module _ (due : ℕ → Option (Due T)) (p : ℕ) where
    -- The first of what stands below a place goes up to it.
    pub order_sunk : (c : ℕ) (d : Due T) → IsAbove p c → due c ≡ Some d → IsOver cmp due p d → IsOrderedBut cmp due p
        → IsOrderedBut cmp (put_at due p (Some d)) c
    order_sunk c d above is first s = record {
      others = λ a k h apart other. elim (cases_eq a p) [
        | inl at_p ↦ rw (put_here due p (Some d) a at_p, put_other due p (Some d) k (omega (arith, h, at_p)))
            (first k (omega (arith, h, at_p), omega (arith, h, at_p)))
        | inr off ↦ elim (cases_eq k p) [
          | inl at_p ↦ rw (put_other due p (Some d) a off, put_here due p (Some d) k at_p, ← is)
              (s.across a c (omega (arith, h, at_p), omega (arith, h, at_p)) above)
          | inr far ↦ rw (put_other due p (Some d) a off, put_other due p (Some d) k far) (s.others a k h off far)
        ]
      ];
      across = λ a k h below. rw (put_here due p (Some d) a (omega (arith, h, above)), put_other due p (Some d) k (omega (arith, below, above)), ← is)
          (s.others c k below (omega (arith, above)) (omega (arith, below, above)));
    }

    -- Where what is put at a place belongs there, all is in order.
    pub order_closed : (d : Due T) → IsUnder cmp due p d → IsOver cmp due p d → IsOrderedBut cmp due p → IsOrdered cmp (put_at due p (Some d))
    order_closed d under over s j k h = elim (cases_eq j p) [
      | inl at_p ↦ rw (put_here due p (Some d) j at_p, put_other due p (Some d) k (omega (arith, h, at_p)))
          (over k (omega (arith, h, at_p), omega (arith, h, at_p)))
      | inr off ↦ elim (cases_eq k p) [
        | inl at_p ↦ rw (put_other due p (Some d) j off, put_here due p (Some d) k at_p) (under j (omega (arith, h, at_p), omega (arith, h, at_p)))
        | inr far ↦ rw (put_other due p (Some d) j off, put_other due p (Some d) k far) (s.others j k h off far)
      ]
    ]

    -- The last of a heap is taken out.
    pub order_shorter : IsOrdered cmp due → ((k : ℕ) → p < k → due k ≡ None) → IsOrdered cmp (put_at due p None)
    order_shorter s after j k h = elim (cases_eq k p) [
      | inl at_p ↦ rw (put_here due p None k at_p) tt
      | inr other ↦ elim (cases_eq j p) [
        | inl at_p ↦ rw (put_other due p None k other, after k (omega (arith, h, at_p))) tt
        | inr off ↦ rw (put_other due p None j off, put_other due p None k other) (s j k h)
      ]
    ]

    -- A place is made at the end of a heap, where nothing stands below.
    pub order_longer : (due' : ℕ → Option (Due T)) → ((k : ℕ) → k ≢ p → due' k ≡ due k) → ((k : ℕ) → p < k → due k ≡ None) → IsOrdered cmp due
        → IsOrderedBut cmp due' p
    order_longer due' same after s = record {
      others = λ j k h apart other. rw (same j apart, same k other) (s j k h);
      across = λ j k h below. rw (same k (omega (arith, below)), after k (omega (arith, below))) tt;
    }

module _ {T : Type 0} {cmp : T → T → Ordering} (o : IsTotalOrder cmp) where
  pub at_most_itself : (a : Option (Due T)) → IsAtMost cmp a a
  at_most_itself None = tt
  at_most_itself (Some a) = due_first_itself o a.at a.turn

  pub at_most_chained : (a b c : Option (Due T)) → IsAtMost cmp a b → IsAtMost cmp b c → IsAtMost cmp a c
  at_most_chained a b None h k = tt
  at_most_chained a None (Some c) h k = absurd k
  at_most_chained None (Some b) (Some c) h k = absurd h
  at_most_chained (Some a) (Some b) (Some c) h k = due_first_chained o a.at a.turn b.at b.turn c.at c.turn h k

  module _ (due : ℕ → Option (Due T)) (p : ℕ) where
    -- What stands above a place comes down to it.
    pub order_risen : (j : ℕ) (d : Due T) → IsAbove j p → due j ≡ Some d → IsOrderedBut cmp due p → IsOrderedBut cmp (put_at due p (Some d)) j
    order_risen j d above is s = record {
      others = λ a c h apart other. elim (cases_eq a p) [
        | inl at_p ↦ rw (put_here due p (Some d) a at_p, put_other due p (Some d) c (omega (arith, h, at_p)), ← is)
            (s.across j c above (omega (arith, h, at_p), omega (arith, h, at_p)))
        | inr off ↦ elim (cases_eq c p) [
          | inl at_p ↦ absurd (apart (omega (arith, h, above, at_p)))
          | inr far ↦ rw (put_other due p (Some d) a off, put_other due p (Some d) c far) (s.others a c h off far)
        ]
      ];
      across = λ a c h k. elim (cases_eq c p) [
        | inl at_p ↦ rw (put_other due p (Some d) a (omega (arith, h, above)), put_here due p (Some d) c at_p, ← is)
            (s.others a j h (omega (arith, h, above)) (omega (arith, above)))
        | inr far ↦ rw (put_other due p (Some d) a (omega (arith, h, above)), put_other due p (Some d) c far)
            (at_most_chained (due a) (due j) (due c) (s.others a j h (omega (arith, h, above)) (omega (arith, above)))
            (s.others j c k (omega (arith, above)) far))
      ];
    }

  module _ (due : ℕ → Option (Due T)) (s : IsOrdered cmp due) where
    pub order_opened : (p : ℕ) → IsOrderedBut cmp due p
    order_opened p = record {
      others = λ j k h apart other. s j k h;
      across = λ j k h below. at_most_chained (due j) (due p) (due k) (s j p h) (s p k below);
    }

    -- What stands at the first place is due after nothing.
    pub order_top : (fuel k : ℕ) → k ≤ fuel → IsAtMost cmp (due 0) (due k)
    order_top fuel zero within = at_most_itself (due 0)
    order_top zero (suc j) within = absurd (omega arith)
    order_top (suc fuel) (suc j) within =
        at_most_chained (due 0) (due (j / 4)) (due (suc j)) (order_top fuel (j / 4) (omega arith)) (s (j / 4) (suc j) (omega arith, omega arith))

  module _ (due : ℕ → Option (Due T)) where
    pub first_alone : (p to : ℕ) → to ≡ p + 1 → IsFirstOf cmp due p to p
    first_alone p to one = record {
      within = (omega arith, omega (arith, one));
      first = λ k after before. subst (λ j. IsAtMost cmp (due p) (due j)) (omega (arith, one, after, before)) (at_most_itself (due p));
    }

    -- Of the firsts of what stands at places and of what stands at those after them one is the first of all.
    pub first_merged : (from mid to x y r : ℕ) → IsFirstOf cmp due from mid x → IsFirstOf cmp due mid to y → (r ≡ x) ⊎ (r ≡ y)
        → IsAtMost cmp (due r) (due x) → IsAtMost cmp (due r) (due y) → IsFirstOf cmp due from to r
    first_merged from mid to x y r one other either before_one before_other = record {
      within = elim either [
        | inl same ↦ (omega (arith, same, one.within), omega (arith, same, one.within, other.within))
        | inr same ↦ (omega (arith, same, one.within, other.within), omega (arith, same, other.within))
      ];
      first = λ k after before. elim (cases_lt k mid) [
        | inl low ↦ at_most_chained (due r) (due x) (due k) before_one (one.first k after low)
        | inr high ↦ at_most_chained (due r) (due y) (due k) before_other (other.first k high before)
      ];
    }

  -- The first of the places right below one, of which there are four, or those before the end.
  pub below_from : (heap : List (Due T)) (p to r : ℕ) → IsFirstOf cmp (slice_get heap) (4 * p + 1) to r → to ≤ length heap → to ≤ 4 * p + 5
      → (4 * p + 5 ≤ to) ⊎ (length heap ≤ to) → (d : Due T) × IsFirstBelow cmp (slice_get heap) p r d
  below_from heap p to r f short few all =
      let stands = get_within heap r (omega (arith, f.within, short)) in (
        stands.0,
        record {
          below = (omega (arith, f.within), omega (arith, f.within, few));
          stands = stands.1;
          first = λ k above. elim (cases_lt k to) [
            | inl before ↦ subst (λ x. IsAtMost cmp x (slice_get heap k)) stands.1 (f.first k (omega (arith, above)) before)
            | inr after ↦ subst (IsAtMost cmp (Some stands.0)) (sym (slice_get_past heap k (elim all [
              | inl four ↦ absurd (omega (arith, four, above, after))
              | inr end ↦ omega (arith, end, after)
            ]))) tt
          ];
        },
      )

  -- What nothing stands below is due after nothing there.
  pub none_over : (due : ℕ → Option (Due T)) (p : ℕ) (d : Due T) → ((k : ℕ) → IsAbove p k → due k ≡ None) → IsOver cmp due p d
  none_over due p d none k above = subst (IsAtMost cmp (Some d)) (sym (none k above)) tt

  module _ (due : ℕ → Option (Due T)) (p : ℕ) where
    -- What came down from above a place is due after what the place is open for, and so is what else stands below where it stood.
    pub over_risen : (j : ℕ) (d x : Due T) → IsAbove j p → due j ≡ Some x → IsAtMost cmp (Some d) (Some x) → IsOrderedBut cmp due p
        → IsOver cmp (put_at due p (Some x)) j d
    over_risen j d x above is later s k h = elim (cases_eq k p) [
      | inl at_p ↦ rw (put_here due p (Some x) k at_p) later
      | inr off ↦ rw (put_other due p (Some x) k off) (at_most_chained (Some d) (Some x) (due k) later
          (subst (λ y. IsAtMost cmp y (due k)) is (s.others j k h (omega (arith, above)) off)))
    ]

    pub over_chained : (d x : Due T) → IsAtMost cmp (Some d) (Some x) → IsOver cmp due p x → IsOver cmp due p d
    over_chained d x before over k above = at_most_chained (Some d) (Some x) (due k) before (over k above)

pub none_from : {X Y : Type 0} (heap : List X) (p : ℕ) (r : Option Y) → IfNone r (length heap ≤ 4 * p + 1)
    → IfNone r ((k : ℕ) → IsAbove p k → slice_get heap k ≡ None)
none_from heap p None short = λ k above. slice_get_past heap k (omega (arith, short, above))
none_from heap p (Some x) short = tt

-- Two values change places.
pub record IsSwapped {X : Type 0} (f g : ℕ → X) (p q : ℕ) : Type 0 where
  pub one : g p ≡ f q
  pub other : g q ≡ f p
  pub rest : (k : ℕ) → k ≢ p → k ≢ q → g k ≡ f k

-- One value is another one.
pub record IsSet {X : Type 0} (f g : ℕ → X) (p : ℕ) (x : X) : Type 0 where
  pub here : g p ≡ x
  pub rest : (k : ℕ) → k ≢ p → g k ≡ f k

some_same : {X : Type 0} (x y : X) → Some x ≡ Some y → x ≡ y
some_same x y e = cc

module _ {T V : Type 0} where
  pub own_held : (k : ℕ) (h : Option (Armed T V)) (d : Due T) → own_due k h ≡ Some d → h ≢ None
  own_held k None d e n = absurd cc
  own_held k (Some a) d e n = absurd cc

  own_slot : (k : ℕ) (a : Armed T V) (d : Due T) → own_due k (Some a) ≡ Some d → d.slot ≡ k
  own_slot k a d e = let whole : record { at = a.at; turn = a.turn; slot = k } ≡ d = cc in ap (λ x. x.slot) (sym whole)

  module _ (held : ℕ → Option (Armed T V)) (due : ℕ → Option (Due T)) (link : ℕ → ℕ) (i : IsIndexed held due link) where
    -- Two places that are apart lead to two slots.
    pub slots_apart : (p q : ℕ) (x y : Due T) → due p ≡ Some x → due q ≡ Some y → p ≢ q → x.slot ≢ y.slot
    slots_apart p q x y e f apart same = apart (sym (i.named p x e).1 ∙ ap link same ∙ (i.named q y f).1)

    -- What stands at two places changes places, and the two slots lead to them.
    pub index_swapped : (p q : ℕ) (x y : Due T) → due p ≡ Some x → due q ≡ Some y → p ≢ q → (due' : ℕ → Option (Due T)) (link' : ℕ → ℕ)
        → IsSwapped due due' p q → IsSwapped link link' x.slot y.slot → IsIndexed held due' link'
    index_swapped p q x y e f apart due' link' s t = record {
      named = λ k d is. elim (cases_eq k p) [
        | inl at_p ↦
            let same : y ≡ d = some_same y d (sym (ap due' at_p ∙ s.one ∙ f) ∙ is) in
            subst (λ z. (own_due z.slot (held z.slot) ≡ Some z) × (link' z.slot ≡ k)) same
            ((i.named q y f).0, t.other ∙ (i.named p x e).1 ∙ sym at_p)
        | inr off ↦ elim (cases_eq k q) [
          | inl at_q ↦
              let same : x ≡ d = some_same x d (sym (ap due' at_q ∙ s.other ∙ e) ∙ is) in
              subst (λ z. (own_due z.slot (held z.slot) ≡ Some z) × (link' z.slot ≡ k)) same
              ((i.named p x e).0, t.one ∙ (i.named q y f).1 ∙ sym at_q)
          | inr far ↦
              let was = sym (s.rest k off far) ∙ is in
              ((i.named k d was).0, t.rest d.slot (slots_apart k p d x was e off) (slots_apart k q d y was f far) ∙ (i.named k d was).1)
        ]
      ];
      placed = λ k a is. elim (cases_eq k x.slot) [
        | inl at_x ↦
            ap due' (ap link' at_x ∙ t.one ∙ (i.named q y f).1) ∙ s.other ∙ ap due (sym (i.named p x e).1 ∙ ap link (sym at_x)) ∙ i.placed k a is
        | inr off ↦ elim (cases_eq k y.slot) [
          | inl at_y ↦
              ap due' (ap link' at_y ∙ t.other ∙ (i.named p x e).1) ∙ s.one ∙ ap due (sym (i.named q y f).1 ∙ ap link (sym at_y)) ∙ i.placed k a is
          | inr far ↦
              let stands = i.placed k a is in
              ap due' (t.rest k off far)
              ∙ s.rest (link k) (λ at_p. off (sym (own_slot k a x (sym stands ∙ ap due at_p ∙ e))))
              (λ at_q. far (sym (own_slot k a y (sym stands ∙ ap due at_q ∙ f))))
              ∙ stands
        ]
      ];
    }

    -- A timer is put into a slot where none stands, at a place where nothing stands.
    pub index_put : (n s : ℕ) (a : Armed T V) (held' : ℕ → Option (Armed T V)) (due' : ℕ → Option (Due T)) (link' : ℕ → ℕ) → due n ≡ None
        → held s ≡ None → IsSet held held' s (Some a) → IsSet due due' n (own_due s (Some a)) → IsSet link link' s n → IsIndexed held' due' link'
    index_put n s a held' due' link' free none h d l = record {
      named = λ k x is. elim (cases_eq k n) [
        | inl last ↦
            let same = some_same _ x (sym (ap due' last ∙ d.here) ∙ is) in
            subst (λ z. (own_due z.slot (held' z.slot) ≡ Some z) × (link' z.slot ≡ k)) same (ap (own_due s) h.here, l.here ∙ sym last)
        | inr other ↦
            let was = i.named k x (sym (d.rest k other) ∙ is) in
            let apart : x.slot ≢ s = λ at_s. own_held x.slot (held x.slot) x was.0 (ap held at_s ∙ none) in
            (ap (own_due x.slot) (h.rest x.slot apart) ∙ was.0, l.rest x.slot apart ∙ was.1)
      ];
      placed = λ k b is. elim (cases_eq k s) [
        | inl at_s ↦ ap due' (ap link' at_s ∙ l.here) ∙ d.here ∙ (sym (ap (own_due s) h.here) ∙ ap (λ j. own_due j (held' j)) (sym at_s)) ∙ ap (own_due k) is
        | inr other ↦
            let stands = i.placed k b (sym (h.rest k other) ∙ is) in
            let apart : link k ≢ n = λ at_n. let none = ap due at_n ∙ free in absurd cc in
            ap due' (l.rest k other) ∙ d.rest (link k) apart ∙ stands
      ];
    }

    -- The time of a timer is written anew, in its slot and at its place.
    pub index_renewed : (s : ℕ) (a b : Armed T V) (held' : ℕ → Option (Armed T V)) (due' : ℕ → Option (Due T)) (link' : ℕ → ℕ) → held s ≡ Some a
        → IsSet held held' s (Some b) → IsSet due due' (link s) (own_due s (Some b)) → IsSet link link' s (link s) → IsIndexed held' due' link'
    index_renewed s a b held' due' link' was h d l =
        let here : due (link s) ≡ own_due s (Some a) = i.placed s a was in
        let back : (k : ℕ) → link' k ≡ link k = λ k. elim (cases_eq k s) [
          | inl at_s ↦ ap link' at_s ∙ l.here ∙ ap link (sym at_s)
          | inr other ↦ l.rest k other
        ] in
        record {
          named = λ k x is. elim (cases_eq k (link s)) [
            | inl same ↦
                let whole = some_same _ x (sym (ap due' same ∙ d.here) ∙ is) in
                subst (λ z. (own_due z.slot (held' z.slot) ≡ Some z) × (link' z.slot ≡ k)) whole (ap (own_due s) h.here, l.here ∙ sym same)
            | inr other ↦
                let old = i.named k x (sym (d.rest k other) ∙ is) in
                let apart : x.slot ≢ s = λ at_s. other (sym old.1 ∙ ap link at_s) in
                (ap (own_due x.slot) (h.rest x.slot apart) ∙ old.0, back x.slot ∙ old.1)
          ];
          placed = λ k c is. elim (cases_eq k s) [
            | inl at_s ↦ ap due' (back k ∙ ap link at_s) ∙ d.here ∙ (sym (ap (own_due s) h.here) ∙ ap (λ j. own_due j (held' j)) (sym at_s)) ∙ ap (own_due k) is
            | inr other ↦
                let stands = i.placed k c (sym (h.rest k other) ∙ is) in
                let apart : link k ≢ link s = λ same. other (sym (own_slot k c _ (sym stands ∙ ap due same ∙ here))) in
                ap due' (back k) ∙ d.rest (link k) apart ∙ stands
          ];
        }

  -- The timer at the last place is taken out.
  pub index_shorter : (held : ℕ → Option (Armed T V)) (due : ℕ → Option (Due T)) (link : ℕ → ℕ) (m : ℕ) → IsIndexed held due link → (d : Due T)
      → due m ≡ Some d → (held' : ℕ → Option (Armed T V)) (due' : ℕ → Option (Due T)) (link' : ℕ → ℕ) → IsSet held held' d.slot None → IsSet due due' m None
      → ((k : ℕ) → k ≢ d.slot → link' k ≡ link k) → IsIndexed held' due' link'
  index_shorter held due link m i d last held' due' link' h e l = record {
    named = λ k x is. elim (cases_eq k m) [
      | inl same ↦ let none = ap due' same ∙ e.here in absurd cc
      | inr other ↦
          let was = sym (e.rest k other) ∙ is in
          let apart : x.slot ≢ d.slot = slots_apart held due link i k m x d was last other in
          (ap (own_due x.slot) (h.rest x.slot apart) ∙ (i.named k x was).0, l x.slot apart ∙ (i.named k x was).1)
    ];
    placed = λ k a is. elim (cases_eq k d.slot) [
      | inl same ↦ let none = ap held' same ∙ h.here in absurd cc
      | inr other ↦
          let stands = i.placed k a (sym (h.rest k other) ∙ is) in
          let apart : link k ≢ m = λ at_m. other (sym (own_slot k a d (sym stands ∙ ap due at_m ∙ last))) in
          ap due' (l k other) ∙ e.rest (link k) apart ∙ stands
    ];
  }
