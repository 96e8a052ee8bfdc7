-- A copy of slots is a copy of the list.
use Rattle.std.proofs.Common.{◌≡◌, ℕ, zero, suc, ◌+◌, ◌<◌, Bool, true, false, cond, List, [], ◌∷◌, ◌++◌, length, get_or, Option, Some, None}
use Rattle.std.proofs.Common.{inl, inr, refl, sym, ap, subst, ◌∙◌, arith}
use Rattle.std.specs.Cmp.{IsTotalOrder}
use Rattle.std.specs.List.{AllZip, Any, filter}
use Rattle.std.specs.Option.{option_map}
use Rattle.std.specs.Ordering.{is_eq, is_gt, is_lt}
use Rattle.std.specs.Prelude.{unwrap_or}
use Rattle.std.specs.declared.cmp.Ordering.{Ordering}
use Rattle.fc_base.specs.declared.try_reserve_error.TryReserveError.{TryReserveError}
use Rattle.fc_base.specs.Copies.{SameContents}
use Rattle.fc_base.specs.OneKey.{put}
use Rattle.fc_base.specs.Parts.{at, below}
use Rattle.fc_timers.specs.declared.timer.Timer.{Timer}
use Rattle.fc_timers.specs.declared.timer.Armed.{Armed}
use Rattle.fc_timers.specs.CopiedSlots.{MayRefuseHeld, MayRefuseSlots, SameArmed}
use Rattle.fc_timers.specs.Copies.{IsCopy, MayRefuseQueue}
use Rattle.fc_timers.specs.InOrder.{in_order, listed}
use Rattle.fc_timers.specs.Slotted.{AreGivenOut, Slotted}
use Rattle.fc_timers.specs.Timers.{by_time_then_turn as order, value_of}
use Rattle.fc_timers.proofs.OfQueue.{is_list}
use Rattle.fc_timers.proofs.Standing.{at_slot}

module _ {A B : Type 0} (R : A → B → Type 0) where
  zip_joined : (s : List A) (t : List B) (u : List A) (v : List B) → AllZip R s t → AllZip R u v → AllZip R (s ++ u) (t ++ v)
  zip_joined [] [] u v z w = w
  zip_joined [] (y ∷ t) u v z w = absurd z
  zip_joined (x ∷ s) [] u v z w = absurd z
  zip_joined (x ∷ s) (y ∷ t) u v z w = (z.0, zip_joined s t u v z.1 w)

  -- What passes on the one side passes on the other, where the tests agree on each pair.
  zip_filtered : (p : A → Bool) (q : B → Bool) → ((x : A) (y : B) → R x y → q y ≡ p x) → (s : List A) (t : List B) → AllZip R s t
      → AllZip R (filter p s) (filter q t)
  zip_filtered p q agree [] [] z = tt
  zip_filtered p q agree [] (y ∷ t) z = absurd z
  zip_filtered p q agree (x ∷ s) [] z = absurd z
  zip_filtered p q agree (x ∷ s) (y ∷ t) z = go (p x) (q y) (agree x y z.0) (zip_filtered p q agree s t z.1)
    where
      go : (b c : Bool) → c ≡ b → AllZip R (filter p s) (filter q t) → AllZip R (cond b (x ∷ filter p s) (filter p s)) (cond c (y ∷ filter q t) (filter q t))
      go true true e rest = (z.0, rest)
      go true false e rest = absurd cc
      go false true e rest = absurd cc
      go false false e rest = rest

module _ {T V : Type 0} (R : (T × ℕ) × (Timer × V) → (T × ℕ) × (Timer × V) → Type 0)
    (keys : (x y : (T × ℕ) × (Timer × V)) → R x y → y.0 ≡ x.0) (cmp : T → T → Ordering) where
  key_at : (s t : List ((T × ℕ) × (Timer × V))) (k : T × ℕ) → AllZip R s t
      → option_map (λ e. e.0) (at (order cmp) t k) ≡ option_map (λ e. e.0) (at (order cmp) s k)
  key_at [] [] k z = refl
  key_at [] (y ∷ t) k z = absurd z
  key_at (x ∷ s) [] k z = absurd z
  key_at (x ∷ s) (y ∷ t) k z =
      go (is_eq (order cmp x.0 k)) (is_eq (order cmp y.0 k)) (ap (λ j. is_eq (order cmp j k)) (keys x y z.0)) (key_at s t k z.1)
    where
      go : (b c : Bool) → c ≡ b → option_map (λ e. e.0) (at (order cmp) t k) ≡ option_map (λ e. e.0) (at (order cmp) s k)
          → option_map (λ e. e.0) (cond c (Some y) (at (order cmp) t k)) ≡ option_map (λ e. e.0) (cond b (Some x) (at (order cmp) s k))
      go true true e rest = ap Some (keys x y z.0)
      go true false e rest = absurd cc
      go false true e rest = absurd cc
      go false false e rest = rest

  zip_put : (s t : List ((T × ℕ) × (Timer × V))) (k : T × ℕ) (v w : Timer × V) → AllZip R s t → ((j : T × ℕ) → R (j, v) (j, w))
      → AllZip R (put (order cmp) s k v) (put (order cmp) t k w)
  zip_put s t k v w z one =
      let found : T × ℕ = unwrap_or (option_map (λ e. e.0) (at (order cmp) s k)) k in
      let same : unwrap_or (option_map (λ e. e.0) (at (order cmp) t k)) k ≡ found = ap (λ o. unwrap_or o k) (key_at s t k z) in
      zip_joined R (below (order cmp) s k) (below (order cmp) t k) _ _
      (zip_filtered R _ _ (λ x y r. ap (λ j. is_lt (order cmp j k)) (keys x y r)) s t z) (
        subst (λ j. R (found, v) (j, w)) (sym same) (one found),
        zip_filtered R _ _ (λ x y r. ap (λ j. is_gt (order cmp j k)) (keys x y r)) s t z,
      )

  -- Slots in pairs, of which the first is slot k: where there is a timer in one there is one in the other, at the same time and turn, and R holds of both.
  abbrev pub ArePaired : ℕ → List (Option (Armed T V)) → List (Option (Armed T V)) → Type 0
  ArePaired k [] [] = Unit {0}
  ArePaired k [] (y ∷ g) = ⊥
  ArePaired k (x ∷ h) [] = ⊥
  ArePaired k (None ∷ h) (None ∷ g) = ArePaired (k + 1) h g
  ArePaired k (None ∷ h) (Some b ∷ g) = ⊥
  ArePaired k (Some a ∷ h) (None ∷ g) = ⊥
  ArePaired k (Some a ∷ h) (Some b ∷ g) =
      (b.at ≡ a.at) × (b.turn ≡ a.turn)
      × ((j : T × ℕ) → R (j, (record { slot = k; number = a.number }, a.value)) (j, (record { slot = k; number = b.number }, b.value))) × ArePaired (k + 1) h g

  pub listed_paired : (k : ℕ) (h g : List (Option (Armed T V))) → ArePaired k h g → AllZip R (listed cmp k h) (listed cmp k g)
  listed_paired k [] [] z = tt
  listed_paired k [] (y ∷ g) z = absurd z
  listed_paired k (x ∷ h) [] z = absurd z
  listed_paired k (None ∷ h) (None ∷ g) z = listed_paired (k + 1) h g z
  listed_paired k (None ∷ h) (Some b ∷ g) z = absurd z
  listed_paired k (Some a ∷ h) (None ∷ g) z = absurd z
  listed_paired k (Some a ∷ h) (Some b ∷ g) z =
      let one : T × ℕ = (a.at, a.turn) in
      let times : (b.at, b.turn) ≡ one = λ i. (z.0 i, z.1 i) in
      subst (λ j. AllZip R (listed cmp k (Some a ∷ h)) (put (order cmp) (listed cmp (k + 1) g) j (record { slot = k; number = b.number }, b.value)))
      (sym times) (zip_put (listed cmp (k + 1) h) (listed cmp (k + 1) g) one _ _ (listed_paired (k + 1) h g z.3) z.2)

module _ {T V : Type 0} (same : V → V → Type 0) (cmp : T → T → Ordering) where
  keys_copied : (x y : (T × ℕ) × (Timer × V)) → IsCopy same x y → y.0 ≡ x.0
  keys_copied x y r = r.0

  paired : (k : ℕ) (h g : List (Option (Armed T V))) → AllZip (SameContents (SameArmed same)) h g → ArePaired (IsCopy same) keys_copied cmp k h g
  paired k [] [] z = tt
  paired k [] (y ∷ g) z = absurd z
  paired k (x ∷ h) [] z = absurd z
  paired k (None ∷ h) (None ∷ g) z = paired (k + 1) h g z.1
  paired k (None ∷ h) (Some b ∷ g) z = absurd z.0
  paired k (Some a ∷ h) (None ∷ g) z = absurd z.0
  paired k (Some a ∷ h) (Some b ∷ g) z =
      (z.0.0, z.0.1, λ j. (refl, (λ i. record { slot = k; number = z.0.2 i }), z.0.3), paired (k + 1) h g z.1)

  pub listed_copied : (h g : List (Option (Armed T V))) → AllZip (SameContents (SameArmed same)) h g → AllZip (IsCopy same) (listed cmp 0 h) (listed cmp 0 g)
  listed_copied h g z = listed_paired (IsCopy same) keys_copied cmp 0 h g (paired 0 h g z)

module _ {T V : Type 0} (cmp : T → T → Ordering) where
  -- What is so of an entry that is found is so of one of the list.
  any_at : (P : (T × ℕ) × (Timer × V) → Type 0) (s : List ((T × ℕ) × (Timer × V))) (k : T × ℕ) (e : (T × ℕ) × (Timer × V)) → at (order cmp) s k ≡ Some e
      → P e → Any P s
  any_at P [] k e h p = absurd cc
  any_at P (x ∷ s) k e h p = go (is_eq (order cmp x.0 k)) h (λ g. any_at P s k e g p)
    where
      go : (b : Bool) → cond b (Some x) (at (order cmp) s k) ≡ Some e → (at (order cmp) s k ≡ Some e → Any P s) → Any P (x ∷ s)
      go true h rest = let same : x ≡ e = cc in (0, x, omega arith, refl, subst P (sym same) p)
      go false h rest = let is = rest h in (suc is.0, is.1, omega (arith, is.2), is.3, is.4)

  held_refused : (may_refuse : V → TryReserveError → Type 0) (e : TryReserveError) (h : Option (Armed T V)) → MayRefuseHeld may_refuse h e
      → (a : Armed T V) × (h ≡ Some a) × may_refuse a.value e
  held_refused may_refuse e None r = absurd r
  held_refused may_refuse e (Some a) r = (a, refl, r)

  module _ (total : IsTotalOrder cmp) (q : Slotted T V) (given : AreGivenOut q) where
    -- A copy of a timer that was refused is one of an entry of the list.
    refused_in_list : (may_refuse : V → TryReserveError → Type 0) (e : TryReserveError) → Any (λ h. MayRefuseHeld may_refuse h e) q.slots
        → Any (λ x. may_refuse (value_of x) e) (in_order cmp q)
    refused_in_list may_refuse e any =
        let is = held_refused may_refuse e any.1 any.4 in
        let there : get_or q.slots any.0 None ≡ Some is.0 = slot_at q.slots any.0 any.1 None any.2 any.3 ∙ is.1 in
        let stands = at_slot q any.0 is.0 there in
        any_at (λ x. may_refuse (value_of x) e) (in_order cmp q) (is.0.at, is.0.turn) _ ((is_list total q given.distinct).all _ is.0 stands) is.2
      where
        slot_at : (h : List (Option (Armed T V))) (k : ℕ) (x d : Option (Armed T V)) → k < length h → get_or h k x ≡ x → get_or h k d ≡ x
        slot_at [] k x d within is = absurd (omega (arith, within))
        slot_at (y ∷ h) zero x d within is = is
        slot_at (y ∷ h) (suc k) x d within is = slot_at h k x d (omega (arith, within)) is

    pub refused_of_queue : (may_refuse : V → TryReserveError → Type 0) (e : TryReserveError) → MayRefuseSlots may_refuse q e
        → MayRefuseQueue may_refuse (record { timers = in_order cmp q; next_turn = q.next_number; room = q.room }) e
    refused_of_queue may_refuse e r = (r.0, elim r.1 [ inl none ↦ inl none | inr any ↦ inr (refused_in_list may_refuse e any) ])
