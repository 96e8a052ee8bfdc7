use Rattle.std.proofs.Common.{◌∷◌, ◌++◌, [], rules, refl, ap, ◌∙◌}
use Rattle.fc_vec.proofs.ItemFacts.{yields_more}
use Rattle.fc_map.specs.Entries.{entries}
use Rattle.fc_map.proofs.LoadFacts.{all_gathered, loaded_more, all_put, stopped_after, stopped_at}
use Rattle.fc_map.proofs.OpenFacts.{open_start, open_more, few_more, few_all}
use Rattle.fc_set.specs.Items.{extended_items}
use Rattle.fc_set.proofs.ItemFacts.{keys, ascending_keys}
use Rattle.fc_set.proofs.ExtendFacts.{keys_more, keys_extended, items_up_to, paired, few_of_keys}
use Rattle.fc_set.proofs.set.extend.BTreeSet+T.try_from_iterator_asked.Goals as goal

pub loop-item-init : goal.loop-item-init
loop-item-init g c = (
  search rules,
  search rules,
  (
    [],
    refl,
    all_gathered g.T.Ord.cmp [] [] c.new-load.result c.new-load.ensures.placed c.new-load.ensures.gathered,
    open_start g.T.Ord.cmp c.new-load.result c.args.asked.now.requests c.new-load.ensures.open c.new-load.ensures.placed,
  ),
)

pub loop-item-preserved : goal.loop-item-preserved
loop-item-preserved g c =
    let done = c.loop-item.invariant.2 in (
      search rules,
      search rules,
      (
        done.0 ++ (c.in-Some.item, tt) ∷ [],
        keys_more done.0 c.loop-item.yielded (c.in-Some.item, tt) done.1,
        loaded_more g.T.Ord.cmp [] done.0 c.loop-item.load done.2 ((c.in-Some.item, tt) ∷ []) c.try_put.new.self c.in-Ok.ensures.taken,
        open_more g.T.Ord.cmp done.0 (c.in-Some.item, tt) c.loop-item.load c.args.asked.now.requests c.loop-item.asked.requests
            c.try_put.new.asked.requests done.3 c.in-Ok.ensures.at_most c.try_put.new.self c.in-Ok.ensures.put c.in-Ok.ensures.open,
      ),
    )

pub returns-in-Err-clause-error : goal.returns-in-Err-clause-error
returns-in-Err-clause-error g c =
    let cmp = g.T.Ord.cmp in
    let item : g.row.T.Denot = c.in-Some.item in
    let done = c.loop-item.invariant.2 in
    let now = c.try_put.new.self.placed in
    let error = c.in-Err.error in
    let taken = yields_more g.I.IntoIter.Iterator.next_gives c.into_iter-item-iterator.result c.loop-item.item-iterator c.next.new.self c.loop-item.yielded
    item c.loop-item.yielded_by c.in-Some.ensures.steps in (
      c.loop-item.yielded ++ item ∷ [],
      (c.into_iter-item-iterator.result, c.into_iter-item-iterator.ensures.into_iter_gives, c.next.new.self, taken),
      (
        keys now,
        λ rest. items_up_to cmp tt [] (done.0 ++ (item, tt) ∷ []) now (c.loop-item.yielded ++ item ∷ []) rest error
            (keys_more done.0 c.loop-item.yielded (item, tt) done.1)
            (stopped_after cmp [] done.0 c.loop-item.load done.2 (item, tt) now error c.in-Err.ensures.error (paired tt rest)),
      ),
      few_of_keys cmp (done.0 ++ (item, tt) ∷ []) (c.loop-item.yielded ++ item ∷ []) c.args.asked.now.requests c.try_put.new.asked.requests
          (keys_more done.0 c.loop-item.yielded (item, tt) done.1)
          (few_more cmp done.0 (item, tt) c.loop-item.load c.args.asked.now.requests c.loop-item.asked.requests c.try_put.new.asked.requests done.3
          c.in-Err.ensures.at_most),
    )

pub returns-in-Ok-flush-clause-made : goal.returns-in-Ok-flush-clause-made
returns-in-Ok-flush-clause-made g c =
    let done = c.loop-item.invariant.2 in (
      c.loop-item.yielded,
      (
        c.into_iter-item-iterator.result,
        c.into_iter-item-iterator.ensures.into_iter_gives,
        (c.next.new.self, (c.loop-item.item-iterator, c.loop-item.yielded_by, c.in-None.ensures.steps)),
      ),
      ap keys (all_put g.T.Ord.cmp [] done.0 c.loop-item.load done.2 (entries c.finish.result) (c.finish.ensures.pairs ∙ c.in-Ok-flush.ensures.all))
          ∙ keys_extended g.T.Ord.cmp [] done.0 ∙ ap (extended_items g.T.Ord.cmp []) done.1,
      few_of_keys g.T.Ord.cmp done.0 c.loop-item.yielded c.args.asked.now.requests c.flush.new.asked.requests done.1
          (few_all g.T.Ord.cmp done.0 c.loop-item.load c.args.asked.now.requests c.loop-item.asked.requests c.flush.new.asked.requests done.3
          c.in-Ok-flush.ensures.none),
    )

pub returns-in-Ok-flush-clause-ascending : goal.returns-in-Ok-flush-clause-ascending
returns-in-Ok-flush-clause-ascending g c = ascending_keys g.T.Ord.cmp _ c.finish.ensures.ascending

pub returns-in-Err-flush-clause-error : goal.returns-in-Err-flush-clause-error
returns-in-Err-flush-clause-error g c =
    let cmp = g.T.Ord.cmp in
    let done = c.loop-item.invariant.2 in
    let now = c.flush.new.self.placed in (
      c.loop-item.yielded,
      (c.into_iter-item-iterator.result, c.into_iter-item-iterator.ensures.into_iter_gives, c.loop-item.item-iterator, c.loop-item.yielded_by),
      (
        keys now,
        λ rest. items_up_to cmp tt [] done.0 now c.loop-item.yielded rest c.in-Err-flush.error done.1
            (stopped_at cmp [] done.0 c.loop-item.load done.2 (paired tt rest) now c.in-Err-flush.error (c.in-Err-flush.ensures.error (paired tt rest))),
      ),
      few_of_keys g.T.Ord.cmp done.0 c.loop-item.yielded c.args.asked.now.requests c.flush.new.asked.requests done.1
          (few_all g.T.Ord.cmp done.0 c.loop-item.load c.args.asked.now.requests c.loop-item.asked.requests c.flush.new.asked.requests done.3
          c.in-Err-flush.ensures.none),
    )
