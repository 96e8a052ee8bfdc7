-- The heap among slots, while one place of it is open.
use Rattle.std.proofs.Common.{◌≡◌, ◌≢◌, ℕ, ◌<◌, List, length, get_or, set, Option, Some, None, refl, sym, ap, subst, ◌∙◌, arith}
use Rattle.std.proofs.lemmas.List.{get_or-set_other, length-map, length-set}
use Rattle.std.proofs.lemmas.Option.{slice_get_within}
use Rattle.std.specs.Cmp.{IsTotalOrder}
use Rattle.std.specs.List.{slice_get}
use Rattle.std.specs.declared.cmp.Ordering.{Ordering}
use Rattle.fc_timers.specs.declared.slot.Due.{Due}
use Rattle.fc_timers.specs.declared.slot.Slot.{Slot}
use Rattle.fc_timers.specs.Heap.{AreVacantKept, IsAbove, IsAtMost, IsHeap, IsIndexed, IsOpen, IsOrdered, IsOrderedBut, IsOver, IsUnder}
use Rattle.fc_timers.specs.Heap.{held_at, helds, link_at, links, own_due, put_at}
use Rattle.fc_timers.proofs.Heaps.{IsSwapped, get_set, index_swapped, order_closed, over_risen, own_held, pointwise, put_here, put_other, set_put, within_some}

module _ {T V : Type 0} {cmp : T → T → Ordering} (slots : List (Slot T V)) (heap : List (Due T)) (p : ℕ) (d : Due T) (gap : IsOpen cmp slots heap p d) where
  abbrev filled : ℕ → Option (Due T)
  filled = put_at (slice_get heap) p (Some d)

  abbrev led : ℕ → ℕ
  led = put_at (link_at slots) d.slot p

  slot_inside : d.slot < length (links slots)
  slot_inside = omega (arith, gap.slot, length-map slots (λ s. s.link))

  here : filled p ≡ Some d
  here = put_here (slice_get heap) p (Some d) p refl

  module _ (j : ℕ) (o : Due T) (apart : j ≢ p) (stands : slice_get heap j ≡ Some o) where
    there : filled j ≡ Some o
    there = put_other (slice_get heap) p (Some d) j apart ∙ stands

    own : own_due o.slot (held_at slots o.slot) ≡ Some o
    own = (gap.indexed.named j o there).0

    -- What stands at another place is a timer of a slot.
    pub moved_slot : o.slot < length slots
    moved_slot = omega (arith, length-map slots (λ s. s.held), within_some (helds slots) o.slot (own_held o.slot _ o own))

    module _ (new : List (Slot T V)) (heap' : List (Due T)) (held : helds new ≡ helds slots) (due : heap' ≡ set heap p o)
        (link : links new ≡ set (links slots) o.slot p) where
      -- It has moved to the place that was open, and its own is open now.
      pub moved_vacant : (was : List ℕ) → AreVacantKept slots was → AreVacantKept new was
      moved_vacant was kept k none =
          let vacant : held_at slots k ≡ None = sym (ap (λ l. get_or l k None) held) ∙ none in
          ap (λ l. get_or l k 0) link
          ∙ get_or-set_other (links slots) o.slot k p 0 (λ same. own_held o.slot _ o own (ap (held_at slots) (sym same) ∙ vacant))
          ∙ kept k vacant

      dues_are : (k : ℕ) → slice_get heap' k ≡ put_at (slice_get heap) p (Some o) k
      dues_are k = ap (λ l. slice_get l k) due ∙ get_set heap p o gap.place k

      links_are : (k : ℕ) → link_at new k ≡ put_at (link_at slots) o.slot p k
      links_are k = ap (λ l. get_or l k 0) link ∙ set_put (links slots) o.slot p 0 (omega (arith, moved_slot, length-map slots (λ s. s.link))) k

      apart_slots : o.slot ≢ d.slot
      apart_slots same = apart (sym (gap.indexed.named j o there).1 ∙ ap led same ∙ put_here (link_at slots) d.slot p d.slot refl)

      -- It is due before what the place is open for, and stands above the place that is open now.
      pub moved_under : IsAbove p j → IsAtMost cmp (Some o) (Some d) → IsUnder cmp (slice_get heap') j d
      moved_under below before i above =
          subst (λ x. IsAtMost cmp x (Some d)) (sym (dues_are i ∙ put_here (slice_get heap) p (Some o) i (omega (arith, below, above)))) before

      -- It is due after what the place is open for, and stands below the place that is open now.
      pub moved_over : IsTotalOrder cmp → IsAbove j p → IsAtMost cmp (Some d) (Some o) → IsOver cmp (slice_get heap') j d
      moved_over total above later =
          subst (λ f. IsOver cmp f j d) (sym (pointwise _ _ dues_are)) (over_risen total (slice_get heap) p j d o above stands later gap.ordered)

      pub moved_len : length heap' ≡ length heap
      moved_len = ap length due ∙ length-set heap p o

      pub moved_gap : IsOrderedBut cmp (put_at (slice_get heap) p (Some o)) j → IsOpen cmp new heap' j d
      moved_gap ordered = record {
        place = omega (arith, slice_get_within heap j o stands, ap length due, length-set heap p o);
        slot = omega (arith, gap.slot, as_long);
        indexed =
            subst (λ h. IsIndexed (λ k. get_or h k None) (put_at (slice_get heap') j (Some d)) (put_at (link_at new) d.slot j)) (sym held)
            (index_swapped (held_at slots) filled led gap.indexed p j d o here there (λ same. apart (sym same)) _ _ swapped led_swapped);
        ordered = subst (λ f. IsOrderedBut cmp f j) (sym (pointwise _ _ dues_are)) ordered;
      }
        where
          as_long : length new ≡ length slots
          as_long = sym (length-map new (λ s. s.held)) ∙ ap length held ∙ length-map slots (λ s. s.held)

          swapped : IsSwapped filled (put_at (slice_get heap') j (Some d)) p j
          swapped = record {
            one = put_other (slice_get heap') j (Some d) p (λ same. apart (sym same)) ∙ dues_are p ∙ put_here (slice_get heap) p (Some o) p refl ∙ sym there;
            other = put_here (slice_get heap') j (Some d) j refl ∙ sym here;
            rest = λ k off far. put_other (slice_get heap') j (Some d) k far ∙ dues_are k ∙ put_other (slice_get heap) p (Some o) k off
                ∙ sym (put_other (slice_get heap) p (Some d) k off);
          }

          led_swapped : IsSwapped led (put_at (link_at new) d.slot j) d.slot o.slot
          led_swapped = record {
            one = put_here (link_at new) d.slot j d.slot refl ∙ sym (gap.indexed.named j o there).1;
            other = put_other (link_at new) d.slot j o.slot apart_slots ∙ links_are o.slot ∙ put_here (link_at slots) o.slot p o.slot refl
                ∙ sym (put_here (link_at slots) d.slot p d.slot refl);
            rest = λ k off far. put_other (link_at new) d.slot j k off ∙ links_are k ∙ put_other (link_at slots) o.slot p k far
                ∙ sym (put_other (link_at slots) d.slot p k off);
          }

  module _ (new : List (Slot T V)) (heap' : List (Due T)) (held : helds new ≡ helds slots) (due : heap' ≡ set heap p d)
      (link : links new ≡ set (links slots) d.slot p) where
    pub closed_vacant : (was : List ℕ) → AreVacantKept slots was → AreVacantKept new was
    closed_vacant was kept k none =
        let vacant : held_at slots k ≡ None = sym (ap (λ l. get_or l k None) held) ∙ none in
        ap (λ l. get_or l k 0) link
        ∙ get_or-set_other (links slots) d.slot k p 0
        (λ same. own_held d.slot _ d (gap.indexed.named p d here).0 (ap (held_at slots) (sym same) ∙ vacant))
        ∙ kept k vacant

    pub closed_len : length heap' ≡ length heap
    closed_len = ap length due ∙ length-set heap p d

    -- Once the place is closed by what belongs there, the slots are a heap.
    pub closed_heap : IsUnder cmp (slice_get heap) p d → IsOver cmp (slice_get heap) p d → IsHeap cmp new heap'
    closed_heap under over =
        let dues_are : slice_get heap' ≡ filled = pointwise _ _ (λ k. ap (λ l. slice_get l k) due ∙ get_set heap p d gap.place k) in
        let links_are : link_at new ≡ led = pointwise _ _ (λ k. ap (λ l. get_or l k 0) link ∙ set_put (links slots) d.slot p 0 slot_inside k) in
        record {
          indexed = subst (λ h. IsIndexed (λ k. get_or h k None) (slice_get heap') (link_at new)) (sym held)
              (subst (λ f. IsIndexed (held_at slots) f (link_at new)) (sym dues_are)
              (subst (λ l. IsIndexed (held_at slots) filled l) (sym links_are) gap.indexed));
          ordered = subst (IsOrdered cmp) (sym dues_are) (order_closed cmp (slice_get heap) p d under over gap.ordered);
        }

-- Slots lead where they led, after two changes as after one.
pub vacant_chained : {T V : Type 0} (a b : List (Slot T V)) (was : List ℕ) → helds b ≡ helds a → AreVacantKept b (links a) → AreVacantKept a was
    → AreVacantKept b was
vacant_chained a b was held after before k none = after k none ∙ before k (sym (ap (λ l. get_or l k None) held) ∙ none)
