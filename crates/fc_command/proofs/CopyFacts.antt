-- By which errors copies are refused.
use Rattle.std.proofs.Common.{◌≡◌, ◌<◌, ◌+◌, ℕ, List, [], ◌∷◌, ◌++◌, length, get_or, drop, drop-cons, add-one, Option, Some, refl, sym, ap, ◌∙◌, subst, inl}
use Rattle.std.proofs.Common.{inr, arith, length-append}
use Rattle.fc_base.specs.declared.try_reserve_error.TryReserveError.{TryReserveError}
use Rattle.fc_base.specs.declared.try_reserve_error.TryReserveError.TheVariants.{AllocError}
use Rattle.fc_base.specs.Copies.{MayRefuseCopies}
use Rattle.fc_lines.specs.declared.command.End.{End}
use Rattle.fc_command.specs.Walks.{given, left, walked, MayRefuseFound}

-- where an item stands
at_place : {X : Type 0} (front : List X) (x : X) (rest : List X) → get_or (front ++ x ∷ rest) (length front) x ≡ x
at_place [] x rest = refl
at_place (y ∷ front) x rest = at_place front x rest

before_end : {X : Type 0} (front : List X) (x : X) (rest : List X) → length front < length (front ++ x ∷ rest)
before_end front x rest = omega (arith, length-append front (x ∷ rest))

module _ {X : Type 0} (may_refuse : X → TryReserveError → Type 0) where
  -- the copy of one of the items was refused
  pub refused_item : (all front rest : List X) (x : X) (e : TryReserveError) → all ≡ front ++ x ∷ rest → may_refuse x e → MayRefuseCopies may_refuse all e
  refused_item all front rest x e parted own =
      let place = before_end front x rest in
      subst (λ l. MayRefuseCopies may_refuse l e) (sym parted) (omega (arith, place), inr (length front, x, place, at_place front x rest, own))

  -- room for them was refused
  pub refused_room : (all front rest : List X) (x : X) → all ≡ front ++ x ∷ rest → MayRefuseCopies may_refuse all AllocError
  refused_room all front rest x parted =
      let place = before_end front x rest in
      subst (λ l. MayRefuseCopies may_refuse l AllocError) (sym parted) (omega (arith, place), inl refl)

module _ {X : Type 0} (may_refuse : X → TryReserveError → Type 0) where
  -- the copy of what was found was refused
  pub refused_found : (found : Option X) (x : X) (e : TryReserveError) → Some x ≡ found → may_refuse x e → MayRefuseFound may_refuse found e
  refused_found found x e is own = subst (λ f. MayRefuseFound may_refuse f e) is own

  -- room for what a walk gives was refused
  pub refused_steps : (s : List X) (ends : List End) → 0 < length ends → MayRefuseCopies (MayRefuseFound may_refuse) (walked s ends) AllocError
  refused_steps s [] some = absurd (omega arith)
  refused_steps s (end ∷ ends) some = (omega arith, inl refl)

  -- the copy of what a walk gave at one of the ends was refused
  pub refused_step : (start now : List X) (ends : List End) (steps : List (Option X)) (i : ℕ) (d : End) (found : Option X) (e : TryReserveError)
      → i < length ends → walked start ends ≡ steps ++ walked now (drop i ends) → found ≡ given (get_or ends i d) now
      → MayRefuseFound may_refuse found e → MayRefuseCopies (MayRefuseFound may_refuse) (walked start ends) e
  refused_step start now ends steps i d found e lt so_far gives own =
      let cell : drop i ends ≡ get_or ends i d ∷ drop (i + 1) ends = rw (add-one, drop-cons ends i d) refl in
      let rest = walked (left (get_or ends i d) now) (drop (i + 1) ends) in
      refused_item (MayRefuseFound may_refuse) (walked start ends) steps rest found e (so_far ∙ ap (λ l. steps ++ walked now l) cell
      ∙ ap (λ f. steps ++ f ∷ rest) (sym gives)) own
