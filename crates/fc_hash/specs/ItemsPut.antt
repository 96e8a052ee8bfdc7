-- What a list of items makes of a hashed set, put in one after another.
use Rattle.std.specs.Prelude.{◌≡◌, Bool, List, [], ◌∷◌, ◌++◌, MatchBool, false}
use Rattle.std.specs.List.{AllZip}
use Rattle.std.specs.List.Sorted.{IsPermutation}
use Rattle.std.specs.Set.{is_member}

module _ {T : Type 0} (eq : T → T → Bool) where
  -- The item t put in: beside the others, unless an equal one is there.
  abbrev pub IsPutIn : T → List T → List T → Type 0
  IsPutIn t ts us = MatchBool (is_member eq ts t) (us ≡ ts) (IsPermutation (t ∷ ts) us)

  -- Each item is put in, in turn.
  abbrev pub ArePutIn : List T → List T → List T → Type 0
  ArePutIn ts [] us = us ≡ ts
  ArePutIn ts (t ∷ items) us = (between : List T) × IsPutIn t ts between × ArePutIn between items us

  -- All items were put in but the last one, which is new.
  pub record ArePutInUpTo (ts taken us : List T) : Type 0 where
    pub front : List T
    pub item : T
    pub is : taken ≡ front ++ item ∷ []
    pub put : ArePutIn ts front us
    pub new : is_member eq us item ≡ false

-- The items us are, in some order, copies of the items ts.
pub record AreItemCopies {T : Type 0} (same : T → T → Type 0) (ts us : List T) : Type 0 where
  pub copies : List T
  pub copied : AllZip same ts copies
  pub is : IsPermutation copies us
