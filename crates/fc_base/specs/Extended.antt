-- What a list of items makes of a list of pairs, put in one after another.
use Rattle.std.specs.Prelude.{◌≡◌, List, [], ◌∷◌, ◌++◌, length, None}
use Rattle.std.specs.declared.cmp.Ordering.{Ordering}
use Rattle.fc_base.specs.declared.try_reserve_error.TryReserveError.{TryReserveError}
use Rattle.fc_base.specs.Growth.{MayGrowRefuse}
use Rattle.fc_base.specs.OneKey.{put}
use Rattle.fc_base.specs.Parts.{at}

module _ {K V : Type 0} (cmp : K → K → Ordering) where
  -- The list with the items put in, in turn.
  abbrev pub extended : List (K × V) → List (K × V) → List (K × V)
  extended s [] = s
  extended s (e ∷ items) = extended (put cmp s e.0 e.1) items

  -- A front of the items was put in, and the item after it, whose key is new, may be refused there with this error.
  pub record IsExtendedUpTo (old items new : List (K × V)) (e : TryReserveError) : Type 0 where
    pub front : List (K × V)
    pub item : K × V
    pub rest : List (K × V)
    pub taken : items ≡ front ++ item ∷ rest
    pub put_in : new ≡ extended old front
    pub new_key : at cmp new item.0 ≡ None
    pub error : MayGrowRefuse (length new) e
