use Rattle.std.proofs.Common.{inl, refl, sym, ap, ◌∙◌, arith}
use Rattle.fc_map.specs.Entries.{entries}
use Rattle.fc_set.proofs.ItemFacts.{keys, keys_length, with_item_keys, ascending_keys, new_keys, none_keys, some_keys, keys_none, sum_keys}
use Rattle.fc_set.proofs.set.BTreeSet.try_insert_asked.Goals as goal

pub returns-in-Ok-clause-new : goal.returns-in-Ok-clause-new
returns-in-Ok-clause-new g c = rw (← c.self.view_is) (new_keys g.T.Ord.cmp (entries c.self.inside.map) c.args.item _ _ c.is_none.ensures c.in-Ok.ensures.old)

pub returns-in-Ok-clause-put : goal.returns-in-Ok-clause-put
returns-in-Ok-clause-put g c = rw (← c.self.view_is) (ap keys c.in-Ok.ensures.put ∙ sym (with_item_keys g.T.Ord.cmp (entries c.self.inside.map) c.args.item tt))

pub returns-in-Ok-clause-full : goal.returns-in-Ok-clause-full
returns-in-Ok-clause-full g c = rw (← c.self.view_is) (λ n l. c.in-Ok.ensures.full (none_keys g.T.Ord.cmp (entries c.self.inside.map) c.args.item n)
    (sym (keys_length (entries c.self.inside.map)) ∙ l))

pub returns-in-Ok-clause-ascending : goal.returns-in-Ok-clause-ascending
returns-in-Ok-clause-ascending g c = ascending_keys g.T.Ord.cmp _ c.try_insert_asked.ensures.ascending

pub returns-in-Ok-clause-no_move : goal.returns-in-Ok-clause-no_move
returns-in-Ok-clause-no_move g c = rw (← c.self.view_is) (λ h. c.in-Ok.ensures.no_move
    (sum_keys g.T.Ord.cmp (entries c.self.inside.map) c.args.item (λ e. e) h))

pub returns-in-Ok-clause-moved : goal.returns-in-Ok-clause-moved
returns-in-Ok-clause-moved g c = rw (← c.self.view_is) (λ n. c.in-Ok.ensures.moved (none_keys g.T.Ord.cmp (entries c.self.inside.map) c.args.item n))

pub returns-in-Err-clause-new_item : goal.returns-in-Err-clause-new_item
returns-in-Err-clause-new_item g c = rw (← c.self.view_is) (keys_none g.T.Ord.cmp (entries c.self.inside.map) c.args.item c.in-Err.ensures.new_key)

pub returns-in-Err-clause-ascending : goal.returns-in-Err-clause-ascending
returns-in-Err-clause-ascending g c = ascending_keys g.T.Ord.cmp _ c.try_insert_asked.ensures.ascending

pub returns-in-Err-clause-no_move : goal.returns-in-Err-clause-no_move
returns-in-Err-clause-no_move g c = λ h. c.in-Err.ensures.no_move (inl refl)

pub returns-in-Err-clause-only_full : goal.returns-in-Err-clause-only_full
returns-in-Err-clause-only_full g c = rw (← c.self.view_is)
    (λ fits. c.in-Err.ensures.only_full (let e = keys_length (entries c.self.inside.map) in omega arith))

pub returns-in-Ok-clause-requests : goal.returns-in-Ok-clause-requests
returns-in-Ok-clause-requests g c = rw (← c.self.view_is)
    (λ n. c.in-Ok.ensures.requests (none_keys g.T.Ord.cmp (entries c.self.inside.map) c.args.item n))

pub returns-in-Ok-clause-none : goal.returns-in-Ok-clause-none
returns-in-Ok-clause-none g c = rw (← c.self.view_is) (λ i. c.try_insert_asked.ensures.none (some_keys g.T.Ord.cmp (entries c.self.inside.map) c.args.item i))

pub returns-in-Ok-clause-few : goal.returns-in-Ok-clause-few
returns-in-Ok-clause-few g c = rw (← c.self.view_is) (rw (keys_length (entries c.self.inside.map)) c.try_insert_asked.ensures.few)

pub returns-in-Err-clause-none : goal.returns-in-Err-clause-none
returns-in-Err-clause-none g c = rw (← c.self.view_is) (λ i. c.try_insert_asked.ensures.none (some_keys g.T.Ord.cmp (entries c.self.inside.map) c.args.item i))

pub returns-in-Err-clause-few : goal.returns-in-Err-clause-few
returns-in-Err-clause-few g c = rw (← c.self.view_is) (rw (keys_length (entries c.self.inside.map)) c.try_insert_asked.ensures.few)
