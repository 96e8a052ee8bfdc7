-- What a walk over a list gives, one answer for each end that is asked.
use Rattle.std.specs.Prelude.{◌-◌, List, [], ◌∷◌, length, take, drop, Option, IsSomeAnd, slice_get}
use Rattle.fc_base.specs.declared.try_reserve_error.TryReserveError.{TryReserveError}
use Rattle.fc_lines.specs.declared.command.End.{End}
use Rattle.fc_lines.specs.declared.command.End.TheVariants.{Front, Back}

-- The member at an end, if there is one.
abbrev pub given : {X : Type 0} → End → List X → Option X
given Front s = slice_get s 0
given Back s = slice_get s (length s - 1)

-- The list without that member.
abbrev pub left : {X : Type 0} → End → List X → List X
left Front s = drop 1 s
left Back s = take (length s - 1) s

-- Each step gives the member at its end, and leaves the others to the next.
abbrev pub walked : {X : Type 0} → List X → List End → List (Option X)
walked s [] = []
walked s (end ∷ more) = given end s ∷ walked (left end s) more

-- By which error a copy of what was found may be refused, given by which one a copy of each member may be. None is refused where nothing was.
abbrev pub MayRefuseFound : {X : Type 0} → (X → TryReserveError → Type 0) → Option X → TryReserveError → Type 0
MayRefuseFound may_refuse found e = IsSomeAnd found (λ x. may_refuse x e)
