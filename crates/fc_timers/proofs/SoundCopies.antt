-- A copy of slots is as sound as the slots.
use Rattle.std.proofs.Common.{◌≡◌, ℕ, zero, suc, ◌≤◌, Bool, cond, List, [], ◌∷◌, length, get_or, count_by, Option, Some, None, is_some, inl, inr}
use Rattle.std.proofs.Common.{refl, sym, ap, subst, ◌∙◌, arith}
use Rattle.std.proofs.lemmas.List.{get_or-map, length-map}
use Rattle.std.proofs.lemmas.List.Sums.{sum_by-cons}
use Rattle.std.specs.List.{AllZip, slice_get}
use Rattle.std.specs.declared.cmp.Ordering.{Ordering}
use Rattle.fc_base.specs.declared.try_reserve_error.TryReserveError.{TryReserveError}
use Rattle.fc_base.specs.Copies.{MayRefuseCopies, SameContents}
use Rattle.fc_timers.specs.declared.timer.Armed.{Armed}
use Rattle.fc_timers.specs.declared.slot.Due.{Due}
use Rattle.fc_timers.specs.declared.slot.Slot.{Slot}
use Rattle.fc_timers.specs.CopiedSlots.{MayRefuseHeld, MayRefuseSlots, SameArmed, SameSlot}
use Rattle.fc_timers.specs.Heap.{IsGivenOut, IsHeap, IsIndexed, IsSound, IsVacantList, held_at, helds, link_at, links, own_due}

module _ {T V : Type 0} (same : V → V → Type 0) where
  abbrev SameHeld : Option (Armed T V) → Option (Armed T V) → Type 0
  SameHeld = SameContents (SameArmed same)

  own_copied : (j : ℕ) (x y : Option (Armed T V)) → SameHeld x y → own_due j y ≡ own_due j x
  own_copied j None None s = refl
  own_copied j None (Some b) s = absurd s
  own_copied j (Some a) None s = absurd s
  own_copied j (Some a) (Some b) s = λ i. Some (record { at = s.0 i; turn = s.1 i; slot = j })

  -- a copy is one of something
  source_of : (x y : Option (Armed T V)) (b : Armed T V) → SameHeld x y → y ≡ Some b → (a : Armed T V) × (x ≡ Some a) × SameArmed same a b
  source_of None None b s e = absurd cc
  source_of None (Some c) b s e = absurd s
  source_of (Some a) None b s e = absurd s
  source_of (Some a) (Some c) b s e = let whole : c ≡ b = cc in (a, refl, subst (SameArmed same a) whole s)

  copy_of_none : (x y : Option (Armed T V)) → SameHeld x y → x ≡ None → y ≡ None
  copy_of_none None None s e = refl
  copy_of_none None (Some b) s e = absurd s
  copy_of_none (Some a) y s e = absurd cc

  some_copied : (x y : Option (Armed T V)) → SameHeld x y → is_some y ≡ is_some x
  some_copied None None s = refl
  some_copied None (Some b) s = absurd s
  some_copied (Some a) None s = absurd s
  some_copied (Some a) (Some b) s = refl

  -- Slots in pairs: their timers are copies, and all else is one and the same.
  pub helds_copied : (slots copies : List (Slot T V)) → AllZip (SameSlot same) slots copies → AllZip SameHeld (helds slots) (helds copies)
  helds_copied [] [] z = tt
  helds_copied [] (t ∷ copies) z = absurd z
  helds_copied (s ∷ slots) [] z = absurd z
  helds_copied (s ∷ slots) (t ∷ copies) z = (z.0.0, helds_copied slots copies z.1)

  links_copied : (slots copies : List (Slot T V)) → AllZip (SameSlot same) slots copies → links copies ≡ links slots
  links_copied [] [] z = refl
  links_copied [] (t ∷ copies) z = absurd z
  links_copied (s ∷ slots) [] z = absurd z
  links_copied (s ∷ slots) (t ∷ copies) z = λ i. z.0.1 i ∷ links_copied slots copies z.1 i

  pub each_copied : (h g : List (Option (Armed T V))) → AllZip SameHeld h g → (k : ℕ) → SameHeld (get_or h k None) (get_or g k None)
  each_copied [] [] z k = tt
  each_copied [] (y ∷ g) z k = absurd z
  each_copied (x ∷ h) [] z k = absurd z
  each_copied (x ∷ h) (y ∷ g) z zero = z.0
  each_copied (x ∷ h) (y ∷ g) z (suc k) = each_copied h g z.1 k

  length_copied : (h g : List (Option (Armed T V))) → AllZip SameHeld h g → length g ≡ length h
  length_copied [] [] z = refl
  length_copied [] (y ∷ g) z = absurd z
  length_copied (x ∷ h) [] z = absurd z
  length_copied (x ∷ h) (y ∷ g) z = ap suc (length_copied h g z.1)

  count_copied : (h g : List (Option (Armed T V))) → AllZip SameHeld h g → count_by is_some g ≡ count_by is_some h
  count_copied [] [] z = refl
  count_copied [] (y ∷ g) z = absurd z
  count_copied (x ∷ h) [] z = absurd z
  count_copied (x ∷ h) (y ∷ g) z =
      let of_y = sum_by-cons (λ o. cond (is_some o) 1 0) y g in
      let of_x = sum_by-cons (λ o. cond (is_some o) 1 0) x h in
      let counted : Bool → ℕ = λ b. cond b 1 0 in
      let one : counted (is_some y) ≡ counted (is_some x) = ap counted (some_copied x y z.0) in
      omega (arith, of_y, of_x, one, count_copied h g z.1)

  indexed_copied : (h g : ℕ → Option (Armed T V)) (due : ℕ → Option (Due T)) (link : ℕ → ℕ) → ((k : ℕ) → SameHeld (h k) (g k))
      → IsIndexed h due link → IsIndexed g due link
  indexed_copied h g due link each was = record {
    named = λ k d is. let of = was.named k d is in (own_copied d.slot (h d.slot) (g d.slot) (each d.slot) ∙ of.0, of.1);
    placed = λ k b is.
        let source = source_of (h k) (g k) b (each k) is in
        was.placed k source.0 source.1 ∙ sym (own_copied k (Some source.0) (Some b) source.2);
  }

  given_copied : (h g : List (Option (Armed T V))) (n : ℕ) → ((k : ℕ) → SameHeld (get_or h k None) (get_or g k None)) → IsGivenOut h n → IsGivenOut g n
  given_copied h g n each was = record {
    below = λ k b is.
        let source = source_of _ _ b (each k) is in
        let of = was.below k source.0 source.1 in
        (omega (arith, of.0, source.2.2), omega (arith, of.1, source.2.1));
    distinct = λ j k a b is are turns.
        let one = source_of _ _ a (each j) is in
        let other = source_of _ _ b (each k) are in
        was.distinct j k one.0 other.0 one.1 other.1 (sym one.2.1 ∙ turns ∙ other.2.1);
  }

  vacant_copied : (h g : List (Option (Armed T V))) (next : List ℕ) → length g ≡ length h → ((k : ℕ) → SameHeld (get_or h k None) (get_or g k None))
      → (n k : ℕ) → IsVacantList h next n k → IsVacantList g next n k
  vacant_copied h g next long each zero k p = p
  vacant_copied h g next long each (suc n) k p =
      (omega (arith, p.0, long), copy_of_none _ _ (each k) p.1, vacant_copied h g next long each n (get_or next k 0) p.2)

  pub slots_copied : (slots copies : List (Slot T V)) → AllZip (SameSlot same) slots copies → length copies ≡ length slots
  slots_copied slots copies pairs =
      let long = length_copied _ _ (helds_copied slots copies pairs) in
      omega (arith, long, length-map slots (λ s. s.held), length-map copies (λ s. s.held))

  module _ {cmp : T → T → Ordering} (slots copies : List (Slot T V)) (pairs : AllZip (SameSlot same) slots copies) where
    heap_copied : (heap : List (Due T)) → IsHeap cmp slots heap → IsHeap cmp copies heap
    heap_copied heap was =
        let linked = sym (links_copied slots copies pairs) in
        let each = each_copied _ _ (helds_copied slots copies pairs) in record {
          indexed = subst (λ l. IsIndexed (held_at copies) (slice_get heap) (λ k. get_or l k 0)) linked
              (indexed_copied (held_at slots) (held_at copies) (slice_get heap) (link_at slots) each was.indexed);
          ordered = was.ordered;
        }

    pub sound_copied : (heap : List (Due T)) (n vacant : ℕ) → IsSound cmp slots heap n vacant → IsSound cmp copies heap n vacant
    sound_copied heap n vacant sound =
        let held = helds_copied slots copies pairs in
        let each = each_copied _ _ held in
        let long = length_copied _ _ held in record {
          heaped = heap_copied heap sound.heaped;
          counted = sound.counted ∙ sym (count_copied _ _ held);
          given_out = given_copied (helds slots) (helds copies) n each sound.given_out;
          vacancies = sound.vacancies;
          total = omega (arith, sound.total, slots_copied slots copies pairs);
          listed = subst (λ l. IsVacantList (helds copies) l sound.vacancies vacant) (sym (links_copied slots copies pairs))
              (vacant_copied (helds slots) (helds copies) (links slots) long each sound.vacancies vacant sound.listed);
        }

-- A copy of a slot that was refused is one of a timer in a slot.
pub refused_of_slots : {T V : Type 0} (may_refuse : V → TryReserveError → Type 0) (slots : List (Slot T V)) (next room : ℕ) (e : TryReserveError)
    → length slots ≤ room → MayRefuseCopies (λ s. MayRefuseHeld may_refuse s.held) slots e
    → MayRefuseSlots may_refuse (record { slots = helds slots; next_number = next; room = room }) e
refused_of_slots may_refuse slots next room e within r = (
  omega (arith, r.0, within),
  elim r.1 [
    | inl none ↦ inl none
    | inr any ↦ inr (
      any.0,
      any.1.held,
      omega (arith, any.2, length-map slots (λ s. s.held)),
      get_or-map (λ s. s.held) slots any.0 any.1 any.1.held any.2 ∙ ap (λ s. s.held) any.3,
      any.4,
    )
  ],
)
