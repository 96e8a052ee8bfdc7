-- The items that an iterator gives.
use Rattle.std.specs.Prelude.{List, Option}
use Rattle.std.specs.Iterator.{Yields, Drains}

-- Of a source that becomes an iterator, whose calls give what they give.
module _ {U T A : Type 0} (becomes : U → T → Type 0) (steps : T → Option A → T → Type 0) (source : U) where
  -- The iterator gave these items, and then its end.
  abbrev pub GivesAll : List A → Type 0
  GivesAll all = (walk : T) × becomes source walk × Drains steps walk all

  -- The iterator gave these items, and was dropped.
  abbrev pub GivesFirst : List A → Type 0
  GivesFirst taken = (walk : T) × becomes source walk × (left : T) × Yields steps walk taken left
