-- What a cache ends as, once a value of it that was lent for writing is given back.
use Rattle.std.specs.Prelude.{Bool, List, [], ◌∷◌, Option, cond}
use Rattle.std.specs.Borrow.{Fml, RattleType, MutBor, LendsIf}
use Rattle.std.specs.HashMap.Lent.{HashMembers}
use Rattle.std.specs.declared.alloc.Allocator.{Ghosts}
use Rattle.fc_cache.specs.declared.held.Held.{Held}
use Rattle.fc_cache.specs.Entries.{Cached}
use Rattle.fc_cache.specs.Lends.{cache_row}
use Rattle.fc_cache.specs.Recent.{Recent}
use Rattle.fc_cache.specs.RecentLends.{recency_row}

-- The entries with w as the value of the first whose key passes, which costs what it did.
abbrev pub with_value : {K V : Type 0} → (K → Bool) → List (K × Held V) → V → List (K × Held V)
with_value test [] w = []
with_value test (e ∷ es) w = cond (test e.0) ((e.0, record { value = w; cost = e.1.cost }) ∷ es) (e ∷ with_value test es w)

module _ (K V Z : RattleType) (g : HashMembers K.Denot) (heap : Ghosts Z.Denot) where
  -- The cache has the entries es, with what was last written through r at the key that passes; at `None` it stays as it is.
  abbrev pub lends_value_in : MutBor (Cached K.Denot V.Denot) → (K.Denot → Bool) → List (K.Denot × Held V.Denot) → Option (MutBor V.Denot) → Fml
  lends_value_in c test es r = LendsIf (cache_row K V Z g heap) V c r (λ w. record { entries = with_value test es w; budget = c.now.budget }) c.now

  -- The same of the entries in the order of their last use.
  abbrev pub lends_recent_in : MutBor (Recent K.Denot V.Denot) → (K.Denot → Bool) → List (K.Denot × Held V.Denot) → Option (MutBor V.Denot) → Fml
  lends_recent_in c test es r = LendsIf (recency_row K V Z g heap) V c r (λ w. record { entries = with_value test es w }) c.now
