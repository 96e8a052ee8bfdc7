use Rattle.std.proofs.Common.{length, ap, ◌∙◌, inl, inr}
use Rattle.std.specs.Prelude.{◌≡◌, true, false}
use Rattle.std.specs.Option.{option_map}
use Rattle.fc_map.specs.Entries.{entries}
use Rattle.fc_set.specs.Items.{items}
use Rattle.fc_index.specs.Rows.{has_both}
use Rattle.fc_index.specs.declared.keyed.Keyed.{Keyed}
use Rattle.fc_index.proofs.Listed.{listed_put, listed_back, new_one, not_both, refused_at}
use Rattle.fc_index.proofs.table.Table.try_insert.Goals as goal

pub returns-in-Err-clause-error : goal.returns-in-Err-clause-error
returns-in-Err-clause-error g c =
    let as_seen = ap length c.self.view_is in
    refused_at _ c.in-Err.error (c.self.invariant.0.many ∙ as_seen) (c.self.invariant.1.many ∙ as_seen) c.in-Err.ensures.error

pub take_out_old-requires : goal.take_out_old-requires
take_out_old-requires g c = c.in-Ok.ensures.ascending.0

pub take_out_old-requires-in-Ok-try_insert : goal.take_out_old-requires-in-Ok-try_insert
take_out_old-requires-in-Ok-try_insert g c = c.in-Ok.ensures.ascending.1

pub invariant_of-self-in-Ok-try_insert : goal.invariant_of-self-in-Ok-try_insert
invariant_of-self-in-Ok-try_insert g c =
    let rows = entries c.self.inside.rows in
    let row : Keyed g.row.A.Denot g.row.B.Denot g.row.V.Denot = record { first = c.args.first; second = c.args.second; value = c.args.value } in
    let done = c.in-Ok-try_insert.ensures in (
      listed_put g.A.Ord.cmp g.I.Ord.cmp (λ r. r.first) g.met.A.Ord.total g.met.I.Ord.total rows (items c.self.inside.firsts) c.self.invariant.0
          c.self.invariant.2 c.args.id _ row c.in-Ok-try_insert.old _ _ c.first_of.result done.put done.old c.in-Ok.ensures.firsts c.take_out_old.ensures.rest
          c.first_of.ensures c.in-Ok.ensures.ascending.0 c.take_out_old.ensures.ascending,
      listed_put g.B.Ord.cmp g.I.Ord.cmp (λ r. r.second) g.met.B.Ord.total g.met.I.Ord.total rows (items c.self.inside.seconds) c.self.invariant.1
          c.self.invariant.2 c.args.id _ row c.in-Ok-try_insert.old _ _ c.second_of.result done.put done.old c.in-Ok.ensures.seconds
          c.take_out_old-in-Ok-try_insert.ensures.rest c.second_of.ensures c.in-Ok.ensures.ascending.1 c.take_out_old-in-Ok-try_insert.ensures.ascending,
      done.ascending,
    )

pub invariant_of-self-in-Err-try_insert : goal.invariant_of-self-in-Err-try_insert
invariant_of-self-in-Err-try_insert g c =
    let rows = entries c.self.inside.rows in
    let same = ap entries c.in-Err-try_insert.ensures.unchanged in (
      listed_back g.A.Ord.cmp g.I.Ord.cmp (λ r. r.first) g.met.A.Ord.total g.met.I.Ord.total rows (items c.self.inside.firsts) c.self.invariant.0
          c.self.invariant.2 c.args.id _ c.args.first c.in-Ok.new.0 _ _ same c.in-Ok.ensures.new_first c.in-Ok.ensures.firsts c.take_back.ensures,
      listed_back g.B.Ord.cmp g.I.Ord.cmp (λ r. r.second) g.met.B.Ord.total g.met.I.Ord.total rows (items c.self.inside.seconds) c.self.invariant.1
          c.self.invariant.2 c.args.id _ c.args.second c.in-Ok.new.1 _ _ same c.in-Ok.ensures.new_second c.in-Ok.ensures.seconds
          c.take_back-in-Err-try_insert.ensures,
      c.in-Err-try_insert.ensures.ascending,
    )

pub returns-in-Err-try_insert-clause-error : goal.returns-in-Err-try_insert-clause-error
returns-in-Err-try_insert-clause-error g c = rw (← c.self.view_is) c.in-Err-try_insert.ensures.error

pub returns-in-Err-clause-new_key : goal.returns-in-Err-clause-new_key
returns-in-Err-clause-new_key g c = rw (← c.self.view_is) (
    not_both g.A.Ord.cmp g.B.Ord.cmp g.I.Ord.cmp (entries c.self.inside.rows) (items c.self.inside.firsts) (items c.self.inside.seconds)
    c.self.invariant.0 c.self.invariant.1 c.args.id c.args.first c.args.second c.in-Err.ensures.new_key
    )

pub returns-in-Err-try_insert-clause-new_key : goal.returns-in-Err-try_insert-clause-new_key
returns-in-Err-try_insert-clause-new_key g c = rw (← c.self.view_is)
    (ap (λ o. has_both g.A.Ord.cmp g.B.Ord.cmp (option_map (λ e. e.1) o) c.args.first c.args.second) c.in-Err-try_insert.ensures.new_key)

pub returns-in-Ok-try_insert-clause-full : goal.returns-in-Ok-try_insert-clause-full
returns-in-Ok-try_insert-clause-full g c = rw (← c.self.view_is) (λ h most.
    elim (new_one g.A.Ord.cmp g.B.Ord.cmp g.I.Ord.cmp (entries c.self.inside.rows) (items c.self.inside.firsts) (items c.self.inside.seconds)
    c.self.invariant.0 c.self.invariant.1 c.args.id c.args.first c.args.second h) as (λ _. false ≡ true) [
      | inl n ↦ c.in-Ok.ensures.full_first n (c.self.invariant.0.many ∙ most)
      | inr n ↦ c.in-Ok.ensures.full_second n (c.self.invariant.1.many ∙ most)
    ])
