use Rattle.std.proofs.Common.{◌++◌, rules, ap, ◌∙◌}
use Rattle.std.proofs.lemmas.Result.{err_from_is_err_and}
use Rattle.std.specs.Vec.Iter.{into_iter_items}
use Rattle.fc_map.specs.Entries.{entries}
use Rattle.fc_laws.proofs.Laws.{extended_more}
use Rattle.callers_of_map.proofs.Lists.{none_left, moved_on}
use Rattle.callers_of_map.proofs.refusals.put_each.Goals as goal

-- one pair more is put in
pub loop-key-preserved-in_ok-try_insert : goal.loop-key-preserved-in_ok-try_insert
loop-key-preserved-in_ok-try_insert g c = record {
  all = moved_on c.args.pairs.items c.loop-key.yielded (c.in-Some.key, c.in-Some.value) _ _ c.loop-key.invariant.all c.in-Some.ensures.steps.0;
  made = extended_more g.K.Ord.cmp (entries c.args.map.now) c.loop-key.yielded (entries c.loop-key.map) (entries c.try_insert.new.self) c.in-Some.key
      c.in-Some.value c.loop-key.invariant.made c.in_ok-try_insert.ensures.put;
}

pub loop-key-preserved : goal.loop-key-preserved
loop-key-preserved g c = record {
  all = moved_on c.args.pairs.items c.loop-key.yielded (c.in-Some.key, c.in-Some.value) _ _ c.loop-key.invariant.all c.in-Some.ensures.steps.0;
  made = extended_more g.K.Ord.cmp (entries c.args.map.now) c.loop-key.yielded (entries c.loop-key.map) (entries c.try_insert.new.self) c.in-Some.key
      c.in-Some.value c.loop-key.invariant.made c.in_ok-try_insert.ensures.put;
}

-- a new key was refused, and the pairs before it are put in
pub returns-in_err-try_insert-clause-error : goal.returns-in_err-try_insert-clause-error
returns-in_err-try_insert-clause-error g c =
    let refusal = c.in_err-try_insert.ensures in
    let p = err_from_is_err_and c.from_residual.result c.from_residual.ensures.1 in
    rw (p.1, p.2) (rw refusal.unchanged (record {
      front = c.loop-key.yielded;
      item = (c.in-Some.key, c.in-Some.value);
      rest = into_iter_items c.next.new.self;
      taken = c.loop-key.invariant.all ∙ ap (λ l. c.loop-key.yielded ++ l) c.in-Some.ensures.steps.0;
      put_in = c.loop-key.invariant.made;
      new_key = refusal.new_key;
      error = refusal.error;
    }))

pub returns-clause-all : goal.returns-clause-all
returns-clause-all g c = rw (none_left _ _ (into_iter_items c.loop-key.key-iterator) c.loop-key.invariant.all (search rules)) c.loop-key.invariant.made
