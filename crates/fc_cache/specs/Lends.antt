-- What a cache ends as, once a reference into it has ended.
use Rattle.std.specs.Prelude.{◌≡◌, Bool, ⊤}
use Rattle.std.specs.Borrow.{Fml, RattleType, MutBor, follows_so}
use Rattle.std.specs.HashMap.Lent.{HashMembers}
use Rattle.std.specs.declared.alloc.Allocator.{Ghosts}
use mathlib.Core.Option.{none}
use Rattle.fc_cache.specs.Entries.{Cached, used_last}
use Rattle.fc_cache.specs.contracts.cache.Cache.{the_row}

module _ (K V Z : RattleType) (g : HashMembers K.Denot) (heap : Ghosts Z.Denot) where
  -- The cache's type, as the logic holds it.
  abbrev pub cache_row : RattleType
  cache_row = the_row K V Z (record {}) (record { eq = g.eq }) (record { hash_input = g.hash_input }) heap

  -- The entry whose key passes the test, if there is one, is the most lately used.
  abbrev pub ends_used_in : MutBor (Cached K.Denot V.Denot) → (K.Denot → Bool) → Fml
  ends_used_in c test = follows_so cache_row cache_row c.ghost_name none (λ _ _. ⊤)
      (λ n. n ≡ record { entries = used_last test c.now.entries; budget = c.now.budget })
