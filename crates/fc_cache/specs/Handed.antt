-- Entries that are handed to a closure, one after another.
use Rattle.std.specs.Prelude.{◌≡◌, List, [], ◌∷◌}
use Rattle.std.specs.Fn.{Mut, Called}

-- A call of f with the key and the value may leave f'.
abbrev pub GivenEntry : {F K V : Type 0} → Mut F (K × (V × Unit {0})) (Unit {0}) → F → K × V → F → Type 0
GivenEntry g f pair f' = Called g f (pair.0, (pair.1, tt)) tt f'

-- Calls by R with these pairs in turn took f to f'.
abbrev pub HandsInTurn : {F P : Type 0} → (F → P → F → Type 0) → F → List P → F → Type 0
HandsInTurn R f [] f' = f' ≡ f
HandsInTurn {F} R f (pair ∷ pairs) f' = (g : F) × R f pair g × HandsInTurn R g pairs f'
