-- The heap, while one slot changes.
use Rattle.std.proofs.Common.{◌≡◌, ◌≢◌, ℕ, ◌+◌, ◌<◌, List, [], ◌∷◌, ◌++◌, length, get_or, set}
use Rattle.std.proofs.Common.{Option, Some, None, refl, sym, ap, subst, ◌∙◌, inl, inr, arith}
use Rattle.std.proofs.lemmas.Bool.{cases_eq}
use Rattle.std.proofs.lemmas.List.{get_or-set_same, get_or-set_other, length-map, length-set, length_push}
use Rattle.std.proofs.lemmas.Option.{slice_get_past, slice_get_within}
use Rattle.std.specs.Cmp.{IsTotalOrder}
use Rattle.std.specs.List.{slice_get}
use Rattle.std.specs.declared.cmp.Ordering.{Ordering}
use Rattle.fc_timers.specs.declared.timer.Armed.{Armed}
use Rattle.fc_timers.specs.declared.slot.Due.{Due}
use Rattle.fc_timers.specs.declared.slot.Slot.{Slot}
use Rattle.fc_timers.specs.Heap.{IsHeap, IsOpen, IsOrdered, held_at, helds, link_at, links, put_at}
use Rattle.fc_timers.proofs.Heaps.{IsSet, IsSwapped, get_last, get_others, index_put, index_renewed, index_shorter, index_swapped, order_longer, order_opened}
use Rattle.fc_timers.proofs.Heaps.{order_shorter, own_held, pointwise, put_here, put_other, within_some}

pub set_is : {X : Type 0} (xs ys : List X) (p : ℕ) (x d : X) → ys ≡ set xs p x → p < length xs → IsSet (λ k. get_or xs k d) (λ k. get_or ys k d) p x
set_is xs ys p x d written within = record {
  here = ap (λ l. get_or l p d) written ∙ get_or-set_same xs p x d within;
  rest = λ k other. ap (λ l. get_or l k d) written ∙ get_or-set_other xs p k x d other;
}

put_is : {X : Type 0} (f g : ℕ → X) (p : ℕ) (x : X) → ((k : ℕ) → g k ≡ f k) → IsSet f (put_at g p x) p x
put_is f g p x same = record { here = put_here g p x p refl; rest = λ k other. put_other g p x k other ∙ same k }

module _ {T V : Type 0} {cmp : T → T → Ordering} (o : IsTotalOrder cmp) (slots new : List (Slot T V)) (s : ℕ) where
  abbrev due_of : Armed T V → Due T
  due_of a = record { at = a.at; turn = a.turn; slot = s }

  -- Links as they were: a timer is put into a slot where none stands, or has another time.
  module _ (heap : List (Due T)) (heaped : IsHeap cmp slots heap) (a : Armed T V) (held : helds new ≡ set (helds slots) s (Some a))
      (link : links new ≡ links slots) where
    as_long : length new ≡ length slots
    as_long = sym (length-map new (λ s. s.link)) ∙ ap length link ∙ length-map slots (λ s. s.link)

    links_are : (k : ℕ) → link_at new k ≡ link_at slots k
    links_are k = ap (λ l. get_or l k 0) link

    -- A place more is open for the timer, below which nothing stands.
    pub put_gap : s < length slots → held_at slots s ≡ None → (last : Due T) (more : List (Due T)) → more ≡ heap ++ last ∷ [] → (p : ℕ)
        → p + 1 ≡ length more → IsOpen cmp new more p (record { at = a.at; turn = a.turn; slot = s })
    put_gap within vacant last more pushed p is_last = record {
      place = omega (arith, is_last);
      slot = omega (arith, within, as_long);
      indexed = index_put (held_at slots) (slice_get heap) (link_at slots) heaped.indexed p s a (held_at new) _ _
          (slice_get_past heap p (omega (arith, at_end))) vacant
          (set_is (helds slots) (helds new) s (Some a) None held (omega (arith, within, length-map slots (λ s. s.held))))
          record {
            here = put_here (slice_get more) p (Some (due_of a)) p refl;
            rest = λ k other. put_other (slice_get more) p (Some (due_of a)) k other ∙ others k other;
          }
          (put_is (link_at slots) (link_at new) s p links_are);
      ordered = order_longer cmp (slice_get heap) p (slice_get more) others (λ k after. slice_get_past heap k (omega (arith, at_end, after))) heaped.ordered;
    }
      where
        at_end : p ≡ length heap
        at_end = omega (arith, is_last, ap length pushed, length_push heap last)

        others : (k : ℕ) → k ≢ p → slice_get more k ≡ slice_get heap k
        others k other = ap (λ l. slice_get l k) pushed ∙ get_others heap last k (λ same. other (same ∙ sym at_end))

    pub retime_gap : (was : Armed T V) → held_at slots s ≡ Some was → IsOpen cmp new heap (link_at slots s) (record { at = a.at; turn = a.turn; slot = s })
    retime_gap was stands = record {
      place = slice_get_within heap (link_at slots s) _ (heaped.indexed.placed s was stands);
      slot = omega (arith, as_long, inside, length-map slots (λ s. s.held));
      indexed = index_renewed (held_at slots) (slice_get heap) (link_at slots) heaped.indexed s was a (held_at new) _ _ stands
          (set_is (helds slots) (helds new) s (Some a) None held inside)
          (put_is (slice_get heap) (slice_get heap) (link_at slots s) (Some (due_of a)) (λ k. refl))
          (put_is (link_at slots) (link_at new) s (link_at slots s) links_are);
      ordered = order_opened o (slice_get heap) heaped.ordered (link_at slots s);
    }
      where
        inside : s < length (helds slots)
        inside = within_some (helds slots) s (λ none. let some = stands in absurd cc)

  -- The timer of the slot is taken out, and what stood at the last place.
  module _ (heap : List (Due T)) (x : Due T) (heaped : IsHeap cmp slots (heap ++ x ∷ [])) (a : Armed T V) (stands : held_at slots s ≡ Some a) (next : ℕ)
      (held : helds new ≡ set (helds slots) s None) (link : links new ≡ set (links slots) s next) where
    abbrev all : List (Due T)
    all = heap ++ x ∷ []

    abbrev m : ℕ
    m = length heap

    own : slice_get all (link_at slots s) ≡ Some (due_of a)
    own = heaped.indexed.placed s a stands

    last : slice_get all m ≡ Some x
    last = get_last heap x

    slot_inside : s < length (helds slots)
    slot_inside = within_some (helds slots) s (λ none. let some = stands in absurd cc)

    -- It has one of the places.
    pub place_within : link_at slots s < m + 1
    place_within = omega (arith, slice_get_within all (link_at slots s) _ own, length_push heap x)

    ended : slice_get heap m ≡ None
    ended = slice_get_past heap m (omega arith)

    left : (k : ℕ) → k ≢ m → slice_get heap k ≡ slice_get all k
    left k other = sym (get_others heap x k other)

    order_left : IsOrdered cmp (slice_get heap)
    order_left = subst (IsOrdered cmp) (sym (pointwise (slice_get heap) (put_at (slice_get all) m None) (λ k. elim (cases_eq k m) [
      | inl at_m ↦ ap (slice_get heap) at_m ∙ ended ∙ sym (put_here (slice_get all) m None k at_m)
      | inr off ↦ left k off ∙ sym (put_other (slice_get all) m None k off)
    ]))) (order_shorter cmp (slice_get all) m heaped.ordered (λ k after. slice_get_past all k (omega (arith, after, length_push heap x))))

    links_left : (k : ℕ) → k ≢ s → link_at new k ≡ link_at slots k
    links_left k other = ap (λ l. get_or l k 0) link ∙ get_or-set_other (links slots) s k next 0 other

    -- Where it stood at the last place, the others are a heap.
    pub take_heap : link_at slots s ≡ m → IsHeap cmp new heap
    take_heap at_last = record {
      indexed = index_shorter (held_at slots) (slice_get all) (link_at slots) m heaped.indexed (due_of a) (ap (slice_get all) (sym at_last) ∙ own) (held_at new)
          (slice_get heap) (link_at new) (set_is (helds slots) (helds new) s None None held slot_inside) record { here = ended; rest = left } links_left;
      ordered = order_left;
    }

    -- Else its place is open, for what stood at the last one.
    module _ (before : link_at slots s < m) where
      abbrev p : ℕ
      p = link_at slots s

      long : length new ≡ length slots
      long = sym (length-map new (λ s. s.held)) ∙ ap length held ∙ length-set (helds slots) s None ∙ length-map slots (λ s. s.held)

      abbrev swapped : ℕ → Option (Due T)
      swapped = put_at (put_at (slice_get all) m (Some (due_of a))) p (Some x)

      abbrev led : ℕ → ℕ
      led = put_at (put_at (link_at slots) s m) x.slot p

      apart : m ≢ p
      apart = omega (arith, before)

      slots_apart : s ≢ x.slot
      slots_apart same = apart (sym (heaped.indexed.named m x last).1 ∙ ap (link_at slots) (sym same))

      last_now : swapped m ≡ Some (due_of a)
      last_now = put_other (put_at (slice_get all) m (Some (due_of a))) p (Some x) m apart ∙ put_here (slice_get all) m (Some (due_of a)) m refl

      dues_swapped : IsSwapped (slice_get all) swapped p m
      dues_swapped = record {
        one = put_here (put_at (slice_get all) m (Some (due_of a))) p (Some x) p refl ∙ sym last;
        other = last_now ∙ sym own;
        rest = λ k off far. put_other (put_at (slice_get all) m (Some (due_of a))) p (Some x) k off ∙ put_other (slice_get all) m (Some (due_of a)) k far;
      }

      links_swapped : IsSwapped (link_at slots) led s x.slot
      links_swapped = record {
        one = put_other (put_at (link_at slots) s m) x.slot p s slots_apart ∙ put_here (link_at slots) s m s refl
            ∙ sym (heaped.indexed.named m x last).1;
        other = put_here (put_at (link_at slots) s m) x.slot p x.slot refl;
        rest = λ k off far. put_other (put_at (link_at slots) s m) x.slot p k far ∙ put_other (link_at slots) s m k off;
      }

      dues_shorter : IsSet swapped (put_at (slice_get heap) p (Some x)) m None
      dues_shorter = record {
        here = put_other (slice_get heap) p (Some x) m apart ∙ ended;
        rest = λ k other. elim (cases_eq k p) [
          | inl at_p ↦ put_here (slice_get heap) p (Some x) k at_p ∙ sym (put_here (put_at (slice_get all) m (Some (due_of a))) p (Some x) k at_p)
          | inr off ↦ put_other (slice_get heap) p (Some x) k off ∙ left k other
              ∙ sym (put_other (put_at (slice_get all) m (Some (due_of a))) p (Some x) k off ∙ put_other (slice_get all) m (Some (due_of a)) k other)
        ];
      }

      links_same : (k : ℕ) → k ≢ s → put_at (link_at new) x.slot p k ≡ led k
      links_same k other = elim (cases_eq k x.slot) [
        | inl at_x ↦ put_here (link_at new) x.slot p k at_x ∙ sym (put_here (put_at (link_at slots) s m) x.slot p k at_x)
        | inr off ↦ put_other (link_at new) x.slot p k off ∙ links_left k other
            ∙ sym (put_other (put_at (link_at slots) s m) x.slot p k off ∙ put_other (link_at slots) s m k other)
      ]

      pub take_gap : IsOpen cmp new heap (link_at slots s) x
      take_gap = record {
        place = before;
        slot = omega (arith, length-map slots (λ s. s.held), long, within_some (helds slots) x.slot (own_held x.slot _ x (heaped.indexed.named m x last).0));
        indexed = index_shorter (held_at slots) swapped led m (index_swapped (held_at slots) (slice_get all) (link_at slots) heaped.indexed p m (due_of a) x own
            last (omega (arith, before)) swapped led dues_swapped links_swapped) (due_of a) last_now (held_at new) _ _
            (set_is (helds slots) (helds new) s None None held slot_inside) dues_shorter links_same;
        ordered = order_opened o (slice_get heap) order_left p;
      }
