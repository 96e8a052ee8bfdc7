use Rattle.std.proofs.Common.{sym, ap, ◌∙◌, arith}
use Rattle.std.specs.Option.{option_map}
use Rattle.fc_map.specs.Entries.{entries}
use Rattle.fc_set.proofs.ItemFacts.{keys, keys_length, item_at_keys, with_replaced_keys, ascending_keys, none_keys, keys_none, some_keys}
use Rattle.fc_set.proofs.set.BTreeSet.replace_asked.Goals as goal

pub returns-in-Ok-clause-old : goal.returns-in-Ok-clause-old
returns-in-Ok-clause-old g c = rw (← c.self.view_is) (c.item_of.ensures ∙ ap (option_map (λ e. e.0)) c.in-Ok.ensures.old
    ∙ sym (item_at_keys g.T.Ord.cmp (entries c.self.inside.map) c.args.item))

pub returns-in-Ok-clause-put : goal.returns-in-Ok-clause-put
returns-in-Ok-clause-put g c = rw (← c.self.view_is) (ap keys c.in-Ok.ensures.put
    ∙ sym (with_replaced_keys g.T.Ord.cmp (entries c.self.inside.map) c.args.item tt))

pub returns-in-Ok-clause-full : goal.returns-in-Ok-clause-full
returns-in-Ok-clause-full g c = rw (← c.self.view_is) (λ n l. c.in-Ok.ensures.full (none_keys g.T.Ord.cmp (entries c.self.inside.map) c.args.item n)
    (sym (keys_length (entries c.self.inside.map)) ∙ l))

pub returns-in-Ok-clause-exchanged : goal.returns-in-Ok-clause-exchanged
returns-in-Ok-clause-exchanged g c = rw (← c.self.view_is) (λ i. c.replace.ensures.exchanged (some_keys g.T.Ord.cmp (entries c.self.inside.map) c.args.item i))

pub returns-in-Ok-clause-ascending : goal.returns-in-Ok-clause-ascending
returns-in-Ok-clause-ascending g c = ascending_keys g.T.Ord.cmp _ c.replace.ensures.ascending

pub returns-in-Err-clause-new_item : goal.returns-in-Err-clause-new_item
returns-in-Err-clause-new_item g c = rw (← c.self.view_is) (keys_none g.T.Ord.cmp (entries c.self.inside.map) c.args.item c.in-Err.ensures.new_key)

pub returns-in-Err-clause-exchanged : goal.returns-in-Err-clause-exchanged
returns-in-Err-clause-exchanged g c = rw (← c.self.view_is) (λ i. c.replace.ensures.exchanged (some_keys g.T.Ord.cmp (entries c.self.inside.map) c.args.item i))

pub returns-in-Err-clause-ascending : goal.returns-in-Err-clause-ascending
returns-in-Err-clause-ascending g c = ascending_keys g.T.Ord.cmp _ c.replace.ensures.ascending

pub returns-in-Err-clause-only_full : goal.returns-in-Err-clause-only_full
returns-in-Err-clause-only_full g c = rw (← c.self.view_is)
    (λ fits. c.in-Err.ensures.only_full (let e = keys_length (entries c.self.inside.map) in omega arith))

pub returns-in-Ok-clause-requests : goal.returns-in-Ok-clause-requests
returns-in-Ok-clause-requests g c = rw (← c.self.view_is)
    (λ n. c.in-Ok.ensures.requests (none_keys g.T.Ord.cmp (entries c.self.inside.map) c.args.item n))

pub returns-in-Ok-clause-none : goal.returns-in-Ok-clause-none
returns-in-Ok-clause-none g c = rw (← c.self.view_is) (λ i. c.replace.ensures.none (some_keys g.T.Ord.cmp (entries c.self.inside.map) c.args.item i))

pub returns-in-Ok-clause-few : goal.returns-in-Ok-clause-few
returns-in-Ok-clause-few g c = rw (← c.self.view_is) (rw (keys_length (entries c.self.inside.map)) c.replace.ensures.few)

pub returns-in-Err-clause-none : goal.returns-in-Err-clause-none
returns-in-Err-clause-none g c = rw (← c.self.view_is) (λ i. c.replace.ensures.none (some_keys g.T.Ord.cmp (entries c.self.inside.map) c.args.item i))

pub returns-in-Err-clause-few : goal.returns-in-Err-clause-few
returns-in-Err-clause-few g c = rw (← c.self.view_is) (rw (keys_length (entries c.self.inside.map)) c.replace.ensures.few)
