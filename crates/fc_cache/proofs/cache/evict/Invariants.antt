use Rattle.std.proofs.Common.{◌≡◌, List, ◌++◌, length}
use denote.Param.Always.{always_mut}
use Rattle.fc_cache.specs.declared.held.Held.{Held}
use Rattle.fc_cache.specs.Entries.{total_cost}
use Rattle.fc_cache.specs.Handed.{GivenEntry}
use Rattle.fc_cache.proofs.Evicted.{Evicting}
use Rattle.fc_cache.proofs.cache.evict.Given as goal

abbrev pub invariant-entries : goal.invariant-entries
invariant-entries g l = record {
  callable : always_mut g.F.FnMut l.f;
  evicting : (others stay : List (g.row.K.Denot × Held g.row.V.Denot)) → l.initial.recency.entries ≡ others ++ stay
      → l.initial.used ≡ total_cost others → Evicting (GivenEntry g.F.FnMut) l.limit others stay l.initial.f l.recency.entries l.used l.f;
}

abbrev pub decreases-entries : goal.decreases-entries
decreases-entries g l = length l.recency.entries
