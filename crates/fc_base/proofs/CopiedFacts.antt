-- Copies of items, made one after another.
use Rattle.std.proofs.Common.{◌≡◌, ℕ, ◌+◌, ◌<◌, List, [], ◌∷◌, ◌++◌, length, take, drop, get_or, refl, sym, ap, ◌∙◌, subst, arith}
use Rattle.std.proofs.lemmas.List.{append-nil, append_assoc, take_all, take-append-drop, drop_more, length-append}
use Rattle.std.proofs.Math.Seq.{get_or-append_seam}
use Rattle.std.proofs.lemmas.List.Elements.{all_zip_more}
use Rattle.std.specs.List.{AllZip, Any}
use Rattle.fc_base.specs.declared.try_reserve_error.TryReserveError.{TryReserveError}
use Rattle.fc_base.specs.CopiedLists.{IsExtended, IsCopiedUpTo}

module _ {T : Type 0} (R : T → T → Type 0) where
  -- No item was copied yet.
  pub none_copied : (old xs : List T) → IsExtended R old (take 0 xs) old
  none_copied old xs = record { copies = []; copied = tt; is = sym (append-nil old) }

  -- One more item was copied, and its copy put after the others.
  pub one_copied : (old xs mid new : List T) (i : ℕ) (x y : T) → i < length xs → x ≡ get_or xs i x → IsExtended R old (take i xs) mid → R x y
      → new ≡ mid ++ y ∷ [] → IsExtended R old (take (i + 1) xs) new
  one_copied old xs mid new i x y h e m r is = record {
    copies = m.copies ++ y ∷ [];
    copied = all_zip_more R xs m.copies i x y h e m.copied r;
    is = is ∙ ap (λ l. l ++ y ∷ []) m.is ∙ append_assoc old m.copies (y ∷ []);
  }

  -- All items were copied.
  pub all_copied : (old xs new : List T) (i : ℕ) → i ≡ length xs → IsExtended R old (take i xs) new → IsExtended R old xs new
  all_copied old xs new i e m = subst (λ l. IsExtended R old l new) (take_all i xs (omega arith)) m

  -- The copy of the next item was refused.
  pub front_copied : (may_refuse : T → TryReserveError → Type 0) (error : TryReserveError) (old xs new : List T) (i : ℕ) (x : T) → i < length xs
      → x ≡ get_or xs i x → IsExtended R old (take i xs) new → may_refuse x error → IsCopiedUpTo R may_refuse error old xs new
  front_copied may_refuse error old xs new i x h e m refusable = record {
    front = take i xs;
    source = x;
    rest = drop (i + 1) xs;
    taken = sym (take-append-drop i xs) ∙ ap (λ l. take i xs ++ l) (drop_more xs i x h) ∙ ap (λ z. take i xs ++ z ∷ drop (i + 1) xs) (sym e);
    extended = m;
    refusable = refusable;
  }

  -- What is refused is a copy of one of the sources.
  pub one_refused : (may_refuse : T → TryReserveError → Type 0) (error : TryReserveError) (old xs new : List T) → IsCopiedUpTo R may_refuse error old xs new
      → Any (λ x. may_refuse x error) xs
  one_refused may_refuse error old xs new u =
      let parts = ap length u.taken ∙ length-append u.front (u.source ∷ u.rest) in (
        length u.front,
        u.source,
        omega (arith, parts),
        ap (λ l. get_or l (length u.front) u.source) u.taken
            ∙ get_or-append_seam u.front u.source u.rest u.source,
        u.refusable,
      )

-- What is its own copy.
equal : {T : Type 0} (xs : List T) → AllZip (λ source copy. copy ≡ source) xs xs
equal [] = tt
equal (x ∷ xs) = (refl, equal xs)

pub extended_equal : {T : Type 0} (old xs new : List T) → new ≡ old ++ xs → IsExtended (λ source copy. copy ≡ source) old xs new
extended_equal old xs new is = record { copies = xs; copied = equal xs; is = is }
