use Rattle.std.proofs.Common.{reverse, sym, ap, ◌∙◌}
use Rattle.std.specs.Map.{lookup_entry, remove_entry}
use Rattle.fc_cache.specs.Recent.{entries_of}
use Rattle.fc_cache.proofs.Reversed.{reversed}
use Rattle.fc_cache.proofs.recency.Recency.take.Goals.{in-Some, in-None}
use Rattle.fc_cache.proofs.recency.Recency.take.Goals as goal

pub returns-clause-taken : goal.returns-clause-taken
returns-clause-taken g c =
    let test = g.Q.Equivalent.equivalent c.args.key in
    rw (← c.self.view_is) (elim c.match-self.branch [
      | in-Some w ↦
          let r = reversed test (g.met.Q.Equivalent.respects_eq c.args.key) w.in-Some.ring.entries w.len-known.ensures.valid.0 in
          w.result-is ∙ w.pop_entry.ensures.value ∙ sym r.entry ∙ ap (λ o. lookup_entry test (entries_of o)) (sym w.in-Some.is)
      | in-None w ↦ w.result-is ∙ ap (λ o. lookup_entry test (entries_of o)) (sym w.in-None.is)
    ])

pub returns-clause-entries : goal.returns-clause-entries
returns-clause-entries g c =
    let test = g.Q.Equivalent.equivalent c.args.key in
    rw (← c.self.view_is) (elim c.match-self.branch [
      | in-Some w ↦
          let r = reversed test (g.met.Q.Equivalent.respects_eq c.args.key) w.in-Some.ring.entries w.len-known.ensures.valid.0 in
          ap (λ s. entries_of s.ring) w.self-inside-is ∙ ap (λ l. reverse l.entries) w.pop_entry.ensures.entries ∙ sym r.left
          ∙ ap (λ o. remove_entry test (entries_of o)) (sym w.in-Some.is)
      | in-None w ↦
          ap (λ s. entries_of s.ring) w.self-inside-is ∙ ap entries_of w.in-None.is ∙ ap (λ o. remove_entry test (entries_of o)) (sym w.in-None.is)
    ])
