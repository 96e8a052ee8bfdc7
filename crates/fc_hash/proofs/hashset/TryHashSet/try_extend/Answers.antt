use Rattle.std.proofs.Common.{rules, refl, [], ◌∷◌, ◌++◌}
use Rattle.fc_vec.proofs.ItemFacts.{yields_more}
use Rattle.fc_hash.proofs.ItemFacts.{put_one_more}
use Rattle.fc_hash.proofs.hashset.TryHashSet.try_extend.Goals as goal

pub returns-in-Err-clause-error : goal.returns-in-Err-clause-error
returns-in-Err-clause-error g c =
    let item : g.row.T.Denot = c.in-Some.item in
    let taken = yields_more g.I.IntoIter.Iterator.next_gives c.into_iter-item-iterator.result c.items.item-iterator c.next.new.self c.items.yielded item
    c.items.yielded_by c.in-Some.ensures.steps in
    let refused = c.in-Err.ensures.error in
    rw refused.3 (
      c.items.yielded ++ item ∷ [],
      (c.into_iter-item-iterator.result, c.into_iter-item-iterator.ensures.into_iter_gives, c.next.new.self, taken),
      record { front = c.items.yielded; item = item; is = refl; put = c.items.invariant.2; new = refused.1 },
      refused.2,
    )

pub items-preserved : goal.items-preserved
items-preserved g c =
    let done = c.in-Ok.ensures in (
      search rules,
      search rules,
      put_one_more g.T.PartialEq.eq c.items.yielded c.args.self.now.items c.items.self.items c.insert.new.self.items c.in-Some.item
          c.items.invariant.2 done.put,
      done.set,
    )
