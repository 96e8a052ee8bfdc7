-- Copies of items, made one after another.
use Rattle.std.proofs.Common.{◌≡◌, ℕ, ◌+◌, ◌<◌, ◌≤◌, List, [], ◌∷◌, ◌++◌, length, take, drop, replicate, get_or, refl, sym, ap, ◌∙◌, subst, arith}
use Rattle.std.proofs.lemmas.List.{append-nil, append_assoc, take-append-drop, get_or-replicate, length-replicate, length-append, take_more}
use Rattle.std.proofs.lemmas.List.Elements.{length_all_zip}
use Rattle.std.specs.List.{AllZip}
use Rattle.fc_base.specs.declared.try_reserve_error.TryReserveError.{TryReserveError}
pub use Rattle.fc_base.proofs.CopiedFacts.{none_copied, one_copied, all_copied, front_copied, one_refused}
use Rattle.fc_vec.specs.Joined.{joined}
use Rattle.fc_vec.specs.Vectors.{Vector, IsExtended, IsCopiedUpTo}

module _ {T : Type 0} (R : T → T → Type 0) where
  module _ (n : ℕ) (x : T) where
    repeated_at : (i : ℕ) → i < n → x ≡ get_or (replicate n x) i x
    repeated_at i h = sym (get_or-replicate n i x x h)

    within : (i : ℕ) → i < n → i < length (replicate n x)
    within i h = let e = length-replicate n x in omega (arith, e, h)

    -- One more copy of the same item.
    pub one_repeated : (old mid new : List T) (i : ℕ) (y : T) → i < n → IsExtended R old (take i (replicate n x)) mid → R x y → new ≡ mid ++ y ∷ []
        → IsExtended R old (take (i + 1) (replicate n x)) new
    one_repeated old mid new i y h m r is = one_copied R old (replicate n x) mid new i x y (within i h) (repeated_at i h) m r is

    -- The next copy of the same item was refused.
    pub front_repeated : (may_refuse : T → TryReserveError → Type 0) (error : TryReserveError) (old new : List T) (i : ℕ) → i < n
        → IsExtended R old (take i (replicate n x)) new → may_refuse x error → IsCopiedUpTo R may_refuse error old (replicate n x) new
    front_repeated may_refuse error old new i h m refusable = front_copied R may_refuse error old (replicate n x) new i x (within i h) (repeated_at i h) m
        refusable

  zip_append : (xs us ys vs : List T) → AllZip R xs ys → AllZip R us vs → AllZip R (xs ++ us) (ys ++ vs)
  zip_append [] us [] vs a b = b
  zip_append [] us (y ∷ ys) vs a b = absurd a
  zip_append (x ∷ xs) us [] vs a b = absurd a
  zip_append (x ∷ xs) us (y ∷ ys) vs a b = (a.0, zip_append xs us ys vs a.1 b)

  -- How many items there are with the copies.
  pub length_extended : (old xs new : List T) → IsExtended R old xs new → length new ≡ length old + length xs
  length_extended old xs new a =
      let many = length_all_zip R xs a.copies a.copied in
      let both = ap length a.is ∙ length-append old a.copies in
      omega (arith, many, both)

  -- Two extensions, one after the other.
  pub extended_on : (old xs mid ys new : List T) → IsExtended R old xs mid → IsExtended R mid ys new → IsExtended R old (xs ++ ys) new
  extended_on old xs mid ys new a b = record {
    copies = a.copies ++ b.copies;
    copied = zip_append xs ys a.copies b.copies a.copied b.copied;
    is = b.is ∙ ap (λ l. l ++ b.copies) a.is ∙ append_assoc old a.copies b.copies;
  }

  -- An extension, and one that was refused on its way, before others.
  pub refused_on : (may_refuse : T → TryReserveError → Type 0) (error : TryReserveError) (old xs mid ys zs whole new : List T) → IsExtended R old xs mid
      → IsCopiedUpTo R may_refuse error mid ys new → whole ≡ xs ++ ys ++ zs → IsCopiedUpTo R may_refuse error old whole new
  refused_on may_refuse error old xs mid ys zs whole new a b e = record {
    front = xs ++ b.front;
    source = b.source;
    rest = b.rest ++ zs;
    taken = e ∙ ap (λ l. xs ++ l ++ zs) b.taken ∙ append_assoc xs (b.front ++ b.source ∷ b.rest) zs
        ∙ ap (λ l. xs ++ l) (append_assoc b.front (b.source ∷ b.rest) zs) ∙ sym (append_assoc xs b.front (b.source ∷ (b.rest ++ zs)));
    extended = extended_on old xs mid b.front new a b.extended;
    refusable = b.refusable;
  }

  -- What is refused among copies of one item is a copy of that item.
  pub refused_repeated : (may_refuse : T → TryReserveError → Type 0) (error : TryReserveError) (old new : List T) (n : ℕ) (x : T)
      → IsCopiedUpTo R may_refuse error old (replicate n x) new → (0 < n) × may_refuse x error
  refused_repeated may_refuse error old new n x u =
      let one = one_refused R may_refuse error old (replicate n x) new u in
      let long = length-replicate n x in
      let is : one.1 ≡ x = sym one.3 ∙ get_or-replicate n one.0 x one.1 (omega (arith, long, one.2)) in
      (omega (arith, long, one.2), subst (λ y. may_refuse y error) is one.4)

module _ {T : Type 0} where
  joined_append : (xs ys : List (Vector T)) → joined (xs ++ ys) ≡ joined xs ++ joined ys
  joined_append [] ys = refl
  joined_append (x ∷ xs) ys = ap (λ l. x.items ++ l) (joined_append xs ys) ∙ sym (append_assoc x.items (joined xs) (joined ys))

  -- One more part.
  pub joined_more : (parts : List (Vector T)) (i : ℕ) (part : Vector T) → i < length parts → part ≡ get_or parts i part
      → joined (take (i + 1) parts) ≡ joined (take i parts) ++ part.items
  joined_more parts i part h e =
      ap joined (take_more parts i part h) ∙ joined_append (take i parts) (get_or parts i part ∷ [])
      ∙ ap (λ (p : Vector T). joined (take i parts) ++ (p.items ++ [])) (sym e) ∙ ap (λ l. joined (take i parts) ++ l) (append-nil part.items)

  -- The items of the first parts, of the next one and of the others.
  pub joined_around : (parts : List (Vector T)) (i : ℕ) (part : Vector T) → i < length parts → part ≡ get_or parts i part
      → joined parts ≡ joined (take i parts) ++ part.items ++ joined (drop (i + 1) parts)
  joined_around parts i part h e =
      ap joined (sym (take-append-drop (i + 1) parts)) ∙ joined_append (take (i + 1) parts) (drop (i + 1) parts)
      ∙ ap (λ l. l ++ joined (drop (i + 1) parts)) (joined_more parts i part h e)

  -- How many items the first parts and the next one have, of all.
  pub joined_length : (parts : List (Vector T)) (i : ℕ) (part : Vector T) → i < length parts → part ≡ get_or parts i part
      → (length (joined (take (i + 1) parts)) ≡ length (joined (take i parts)) + length part.items)
      × (length (joined (take i parts)) + length part.items ≤ length (joined parts))
  joined_length parts i part h e =
      let more = ap length (joined_more parts i part h e) ∙ length-append (joined (take i parts)) part.items in
      let around = ap length (joined_around parts i part h e) ∙ length-append (joined (take i parts) ++ part.items) (joined (drop (i + 1) parts)) in
      let front = length-append (joined (take i parts)) part.items in
      (more, omega (arith, around, front))
