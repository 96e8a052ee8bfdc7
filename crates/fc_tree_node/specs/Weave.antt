-- Lists and single items in turn.
use Rattle.std.specs.Prelude.{List, [], ◌∷◌, ◌++◌}

module _ {X : Type 0} where
  -- The items in order, each followed by the next list while there is one.
  abbrev pub after_list : List X → List (List X) → List X
  after_list [] cs = []
  after_list (p ∷ ps) [] = p ∷ ps
  after_list (p ∷ ps) (c ∷ cs) = p ∷ (c ++ after_list ps cs)

  -- The lists in order, each followed by the next item; with no list, the items alone.
  abbrev pub before_list : List (List X) → List X → List X
  before_list [] ps = ps
  before_list (c ∷ cs) [] = []
  before_list (c ∷ cs) (p ∷ ps) = c ++ p ∷ before_list cs ps

  -- The lists and the items in turn, from the first list on; with no list, the items alone.
  abbrev pub weave : List (List X) → List X → List X
  weave [] ps = ps
  weave (c ∷ cs) ps = c ++ after_list ps cs
