use Rattle.std.proofs.Common.{rules, refl, [], ◌∷◌, ◌++◌}
use Rattle.fc_vec.proofs.ItemFacts.{yields_more}
use Rattle.fc_hash.proofs.ExtendFacts.{extended_more}
use Rattle.fc_hash.proofs.hashmap.TryHashMap.try_extend.Goals as goal

pub returns-in-Err-clause-error : goal.returns-in-Err-clause-error
returns-in-Err-clause-error g c =
    let item : g.row.K.Denot × g.row.V.Denot = (c.in-Some.key, c.in-Some.value) in
    let taken = yields_more g.I.IntoIter.Iterator.next_gives c.into_iter-key-iterator.result c.items.key-iterator c.next.new.self c.items.yielded item
    c.items.yielded_by c.in-Some.ensures.steps in
    let refused = c.in-Err.ensures.error in
    rw refused.3 (
      c.items.yielded ++ item ∷ [],
      (c.into_iter-key-iterator.result, c.into_iter-key-iterator.ensures.into_iter_gives, c.next.new.self, taken),
      record { front = c.items.yielded; item = item; is = refl; extended = c.items.invariant.2; new_key = refused.1 },
      refused.2,
    )

pub items-preserved : goal.items-preserved
items-preserved g c =
    let done = c.in-Ok.ensures in (
      search rules,
      search rules,
      extended_more g.K.PartialEq.eq c.args.self.now.pairs c.items.yielded c.items.self.pairs c.insert.new.self.pairs (c.in-Some.key, c.in-Some.value)
          c.in-Ok.old c.items.invariant.2 done.put done.values,
      done.map,
    )
