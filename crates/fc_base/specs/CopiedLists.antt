-- Copies of a list's items, put after those of another list.
use Rattle.std.specs.Prelude.{◌≡◌, List, ◌∷◌, ◌++◌}
use Rattle.std.specs.List.{AllZip}
use Rattle.fc_base.specs.declared.try_reserve_error.TryReserveError.{TryReserveError}

module _ {T : Type 0} (same : T → T → Type 0) where
  -- The old items, and then a copy of each source.
  pub record IsExtended (old sources new : List T) : Type 0 where
    pub copies : List T
    pub copied : AllZip same sources copies
    pub is : new ≡ old ++ copies

  -- The old items, and then copies of a front of the sources; the copy of the source after that front may be refused by this error.
  pub record IsCopiedUpTo (may_refuse : T → TryReserveError → Type 0) (e : TryReserveError) (old sources new : List T) : Type 0 where
    pub front : List T
    pub source : T
    pub rest : List T
    pub taken : sources ≡ front ++ source ∷ rest
    pub extended : IsExtended old front new
    pub refusable : may_refuse source e
