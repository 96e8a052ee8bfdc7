use Rattle.std.proofs.Common.{◌∷◌, ◌++◌, [], rules, ◌∙◌}
use Rattle.fc_vec.proofs.ItemFacts.{yields_more}
use Rattle.fc_map.proofs.LoadFacts.{all_gathered, loaded_more, all_put, stopped_after, stopped_at}
use Rattle.fc_map.proofs.OpenFacts.{open_start, open_more, few_more, few_all}
use Rattle.fc_map.proofs.map.load_asked.BTreeMap+K+V.try_from_iterator_asked.Goals as goal

pub loop-key-init : goal.loop-key-init
loop-key-init g c = (
  search rules,
  search rules,
  all_gathered g.K.Ord.cmp [] [] c.new-load.result c.new-load.ensures.placed c.new-load.ensures.gathered,
  open_start g.K.Ord.cmp c.new-load.result c.args.asked.now.requests c.new-load.ensures.open c.new-load.ensures.placed,
)

pub loop-key-preserved : goal.loop-key-preserved
loop-key-preserved g c = (
  search rules,
  search rules,
  loaded_more g.K.Ord.cmp [] c.loop-key.yielded c.loop-key.load c.loop-key.invariant.2 ((c.in-Some.key, c.in-Some.value) ∷ []) c.try_put.new.self
      c.in-Ok.ensures.taken,
  open_more g.K.Ord.cmp c.loop-key.yielded (c.in-Some.key, c.in-Some.value) c.loop-key.load c.args.asked.now.requests c.loop-key.asked.requests
      c.try_put.new.asked.requests c.loop-key.invariant.3 c.in-Ok.ensures.at_most c.try_put.new.self c.in-Ok.ensures.put c.in-Ok.ensures.open,
)

pub returns-in-Err-clause-error : goal.returns-in-Err-clause-error
returns-in-Err-clause-error g c =
    let item : g.row.K.Denot × g.row.V.Denot = (c.in-Some.key, c.in-Some.value) in
    let taken = yields_more g.T.IntoIter.Iterator.next_gives c.into_iter-key-iterator.result c.loop-key.key-iterator c.next.new.self c.loop-key.yielded item
    c.loop-key.yielded_by c.in-Some.ensures.steps in (
      c.loop-key.yielded ++ item ∷ [],
      (c.into_iter-key-iterator.result, c.into_iter-key-iterator.ensures.into_iter_gives, c.next.new.self, taken),
      (
        c.try_put.new.self.placed,
        stopped_after g.K.Ord.cmp [] c.loop-key.yielded c.loop-key.load c.loop-key.invariant.2 item c.try_put.new.self.placed c.in-Err.error
            c.in-Err.ensures.error,
      ),
      few_more g.K.Ord.cmp c.loop-key.yielded item c.loop-key.load c.args.asked.now.requests c.loop-key.asked.requests c.try_put.new.asked.requests
          c.loop-key.invariant.3 c.in-Err.ensures.at_most,
    )

pub returns-in-Ok-flush-clause-made : goal.returns-in-Ok-flush-clause-made
returns-in-Ok-flush-clause-made g c = (
  c.loop-key.yielded,
  (
    c.into_iter-key-iterator.result,
    c.into_iter-key-iterator.ensures.into_iter_gives,
    (c.next.new.self, (c.loop-key.key-iterator, c.loop-key.yielded_by, c.in-None.ensures.steps)),
  ),
  all_put g.K.Ord.cmp [] c.loop-key.yielded c.loop-key.load c.loop-key.invariant.2 _ (c.finish.ensures.pairs ∙ c.in-Ok-flush.ensures.all),
  few_all g.K.Ord.cmp c.loop-key.yielded c.loop-key.load c.args.asked.now.requests c.loop-key.asked.requests c.flush.new.asked.requests
      c.loop-key.invariant.3 c.in-Ok-flush.ensures.none,
)

pub returns-in-Err-flush-clause-error : goal.returns-in-Err-flush-clause-error
returns-in-Err-flush-clause-error g c = (
  c.loop-key.yielded,
  (c.into_iter-key-iterator.result, c.into_iter-key-iterator.ensures.into_iter_gives, c.loop-key.key-iterator, c.loop-key.yielded_by),
  (
    c.flush.new.self.placed,
    λ rest. stopped_at g.K.Ord.cmp [] c.loop-key.yielded c.loop-key.load c.loop-key.invariant.2 rest c.flush.new.self.placed c.in-Err-flush.error
        (c.in-Err-flush.ensures.error rest),
  ),
  few_all g.K.Ord.cmp c.loop-key.yielded c.loop-key.load c.args.asked.now.requests c.loop-key.asked.requests c.flush.new.asked.requests
      c.loop-key.invariant.3 c.in-Err-flush.ensures.none,
)
