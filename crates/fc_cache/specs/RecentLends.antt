-- What entries in the order of their last use end as, once a reference into them has ended.
use Rattle.std.specs.Prelude.{◌≡◌, List, ⊤}
use Rattle.std.specs.Borrow.{Fml, RattleType, MutBor, follows_so}
use Rattle.std.specs.HashMap.Lent.{HashMembers}
use Rattle.std.specs.declared.alloc.Allocator.{Ghosts}
use mathlib.Core.Option.{none}
use Rattle.fc_cache.specs.declared.held.Held.{Held}
use Rattle.fc_cache.specs.Recent.{Recent}
use Rattle.fc_cache.specs.contracts.recency.Recency.{the_row}

module _ (K V Z : RattleType) (g : HashMembers K.Denot) (heap : Ghosts Z.Denot) where
  -- The type of the entries, as the logic holds it.
  abbrev pub recency_row : RattleType
  recency_row = the_row K V Z (record {}) (record { eq = g.eq }) (record { hash_input = g.hash_input }) heap

  -- These are the entries once a reference into them has ended.
  abbrev pub ends_recent_in : MutBor (Recent K.Denot V.Denot) → List (K.Denot × Held V.Denot) → Fml
  ends_recent_in c es = follows_so recency_row recency_row c.ghost_name none (λ _ _. ⊤) (λ n. n ≡ record { entries = es })
