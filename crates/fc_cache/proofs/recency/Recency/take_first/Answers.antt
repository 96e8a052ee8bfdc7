use Rattle.std.proofs.Common.{[], reverse, ap, ◌∙◌}
use Rattle.fc_cache.specs.Recent.{entries_of}
use Rattle.lru.proofs.Pairs.{pops_last}
use Rattle.fc_cache.proofs.Recent.{taken_alike}
use Rattle.fc_cache.proofs.recency.Recency.take_first.Goals.{in-Some, in-None}
use Rattle.fc_cache.proofs.recency.Recency.take_first.Goals as goal

pub returns : goal.returns
returns g c =
    rw (← c.self.view_is) (record {
      taken = elim c.match-self.branch [
        | in-Some w ↦ taken_alike (ap entries_of w.in-Some.is) (w.result-is ∙ w.pop_lru.ensures.value)
            (ap (λ s. entries_of s.ring) w.self-inside-is ∙ ap (λ l. reverse l.entries) w.pop_lru.ensures.entries) (pops_last w.in-Some.ring.entries)
        | in-None w ↦ taken_alike (ap entries_of w.in-None.is) w.result-is
            (ap (λ s. entries_of s.ring) w.self-inside-is ∙ ap entries_of w.in-None.is) (pops_last [])
      ];
    })
