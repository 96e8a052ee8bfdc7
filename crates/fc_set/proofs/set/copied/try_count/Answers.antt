use Rattle.std.proofs.Common.{◌<◌, length, refl, sym, subst, rules}
use Rattle.std.specs.Iterator.{IsFinite}
use Rattle.fc_set.specs.Copied.{Lends}
use Rattle.fc_set.proofs.CopiedFacts.{counted_start, counted_more, counted_all}
use Rattle.fc_set.proofs.set.copied.try_count.Goals as goal

pub loop-item-init : goal.loop-item-init
loop-item-init g c =
    let e = sym c.into_iter-item-iterator.ensures.into_iter_gives in (
      subst g.I.Iterator.can_next e c.requires.ends.0,
      subst (λ w. IsFinite (g.I.Iterator.remaining w)) e c.requires.ends.1,
      λ all lends. counted_start g.I.Iterator.next_gives all c.into_iter-item-iterator.result (subst (λ w. Lends g.I.Iterator.next_gives w all) e lends),
    )

pub loop-item-preserved : goal.loop-item-preserved
loop-item-preserved g c = (
  search rules,
  search rules,
  λ all lends. (counted_more g.I.Iterator.next_gives all c.loop-item.count c.loop-item._item-iterator c.next.new.self
      c.in-Some._item (c.loop-item.invariant.2 all lends) c.in-Some.ensures.steps).0,
)

pub returns-then-count-clause-error : goal.returns-then-count-clause-error
returns-then-count-clause-error g c = (
  refl,
  λ all lends. subst (λ n. n < length all) c.if-count.true (counted_more g.I.Iterator.next_gives all c.loop-item.count c.loop-item._item-iterator
      c.next.new.self c.in-Some._item (c.loop-item.invariant.2 all lends) c.in-Some.ensures.steps).1,
)

pub returns-clause-count : goal.returns-clause-count
returns-clause-count g c = λ all lends. counted_all g.I.Iterator.next_gives all c.loop-item.count c.loop-item._item-iterator c.next.new.self
    (c.loop-item.invariant.2 all lends) c.in-None.ensures.steps
