-- What a walk over a vector gave, to its end or up to a refusal.
use Rattle.std.proofs.Common.{◌≡◌, List, [], ◌∷◌, ◌++◌, Option, Some, Ok, refl, sym, ap, subst, ◌∙◌, append_assoc}
use Rattle.std.specs.Iterator.{Yields, Drains}
use Rattle.std.proofs.lemmas.Iterator.{YieldsList}
use Rattle.std.proofs.lemmas.Iterator.Adapters.{items_from_extend}
use Rattle.std.specs.declared.cmp.Ordering.{Ordering}
use Rattle.fc_base.specs.declared.try_reserve_error.TryReserveError.{TryReserveError}
use Rattle.fc_base.specs.Extended.{IsExtendedUpTo}
use Rattle.fc_set.specs.Items.{AreExtendedUpTo}

module _ {S A : Type 0} (steps : S → Option A → S → Type 0) (becomes : S → Type 0) (items : List A) (P : List A → Type 0) where
  -- what holds of all items that were given, where the walk gives these
  pub given_all : ((s : S) → becomes s → YieldsList steps (λ x. x) s items) → (all : List A) × ((s : S) × becomes s × Drains steps s all) × P all → P items
  given_all gives (all, (s, is, drains), holds) = items_from_extend {E = Unit {0}} {P = P} (Ok tt) (s, all, refl, holds, drains) (gives s is)

module _ {S A : Type 0} (steps : S → Option A → S → Type 0) (rest : S → List A) (first : (s t : S) (x : A) → steps s (Some x) t → rest s ≡ x ∷ rest t) where
  -- the items that were given, and those that are left
  pub given_first : (s t : S) (xs : List A) → Yields steps s xs t → rest s ≡ xs ++ rest t
  given_first s t [] e = ap rest e
  given_first s t (x ∷ xs) y = first s y.0 x y.1 ∙ ap (λ l. x ∷ l) (given_first y.0 t xs y.2)

  -- what holds of those that were given, and so of these with what follows them, where the walk begins with these
  pub given_front : (becomes : S → Type 0) (items : List A) (P : List A → Type 0) → ((s : S) → becomes s → rest s ≡ items)
      → ((taken more : List A) → P taken → P (taken ++ more)) → (taken : List A) × ((s : S) × becomes s × (t : S) × Yields steps s taken t) × P taken → P items
  given_front becomes items P begins follows (taken, (s, is, t, yields), holds) =
      subst P (sym (given_first s t taken yields) ∙ begins s is) (follows taken (rest t) holds)

-- A refusal among items is one among these and those that come after.
pub stopped_before : {K V : Type 0} (cmp : K → K → Ordering) (old new : List (K × V)) (e : TryReserveError) (taken more : List (K × V))
    → IsExtendedUpTo cmp old taken new e → IsExtendedUpTo cmp old (taken ++ more) new e
stopped_before cmp old new e taken more s = record {
  front = s.front;
  item = s.item;
  rest = s.rest ++ more;
  taken = ap (λ l. l ++ more) s.taken ∙ append_assoc s.front (s.item ∷ s.rest) more;
  put_in = s.put_in;
  new_key = s.new_key;
  error = s.error;
}

pub items_stopped_before : {T : Type 0} (cmp : T → T → Ordering) (old new : List T) (e : TryReserveError) (taken more : List T)
    → AreExtendedUpTo cmp old taken new e → AreExtendedUpTo cmp old (taken ++ more) new e
items_stopped_before cmp old new e taken more s = record {
  front = s.front;
  item = s.item;
  rest = s.rest ++ more;
  taken = ap (λ l. l ++ more) s.taken ∙ append_assoc s.front (s.item ∷ s.rest) more;
  put_in = s.put_in;
  new_item = s.new_item;
  error = s.error;
}
