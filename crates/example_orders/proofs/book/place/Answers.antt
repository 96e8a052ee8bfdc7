use Rattle.std.proofs.Common.{◌<◌, ◌+◌, sym, subst, arith}
use Rattle.example_orders.specs.Orders.{Orders, AreApart, AreNumberedBelow}
use Rattle.example_orders.specs.Placing.{limit_at}
use Rattle.example_orders.proofs.OrderFacts.{apart_put, numbered_put, numbered_more}
use Rattle.example_orders.proofs.FillFacts.{all_after, apart_after}
use Rattle.example_orders.proofs.PlaceFacts.{all_filled, some_rests}
use Rattle.example_orders.proofs.book.place.Goals as goal

pub returns-then-resting-eq0-clause-placed : goal.returns-then-resting-eq0-clause-placed
returns-then-resting-eq0-clause-placed g c =
    let t = c.take_all-resting in
    all_filled c.args.rank c.args.quantity c.args.own.now c.args.others.now t.new.self c.args.next.now t.result t.ensures.left t.ensures.at_most t.ensures.rest
    c.if-resting-eq0.true

pub returns-then-resting-eq0-clause-apart : goal.returns-then-resting-eq0-clause-apart
returns-then-resting-eq0-clause-apart g c = subst (λ (s : Orders). AreApart c.args.own.now s) (sym c.take_all-resting.ensures.rest)
    (apart_after c.args.own.now c.args.others.now (limit_at c.args.rank) c.args.quantity c.requires.apart)

pub returns-then-resting-eq0-clause-others_numbered : goal.returns-then-resting-eq0-clause-others_numbered
returns-then-resting-eq0-clause-others_numbered g c = subst (λ (s : Orders). AreNumberedBelow c.args.next.now s) (sym c.take_all-resting.ensures.rest)
    (all_after (λ k. k.1 < c.args.next.now) (limit_at c.args.rank) c.args.quantity c.args.others.now c.requires.others_numbered)

pub returns-clause-placed : goal.returns-clause-placed
returns-clause-placed g c =
    let t = c.take_all-resting in
    let l : 0 < c.take_all-resting.result = omega arith in
    some_rests c.args.rank c.args.quantity c.args.own.now c.args.others.now t.new.self c.args.next.now t.result t.ensures.left t.ensures.at_most t.ensures.rest
    c.rest.new.self l c.requires.numbered c.rest.ensures

pub returns-clause-apart : goal.returns-clause-apart
returns-clause-apart g c =
    let l : 0 < c.take_all-resting.result = omega arith in
    let a = subst (λ (s : Orders). AreApart c.args.own.now s) (sym c.take_all-resting.ensures.rest)
    (apart_after c.args.own.now c.args.others.now (limit_at c.args.rank) c.args.quantity c.requires.apart) in
    subst (λ (s : Orders). AreApart s c.take_all-resting.new.self) (sym c.rest.ensures)
    (apart_put c.args.own.now c.take_all-resting.new.self c.args.rank c.args.next.now c.take_all-resting.result c.requires.numbered
    (c.take_all-resting.ensures.above l) a)

pub returns-clause-numbered : goal.returns-clause-numbered
returns-clause-numbered g c = subst (λ (s : Orders). AreNumberedBelow (c.args.next.now + 1) s) (sym c.rest.ensures)
    (numbered_put c.args.own.now c.args.rank c.args.next.now c.take_all-resting.result c.requires.numbered)

pub returns-clause-others_numbered : goal.returns-clause-others_numbered
returns-clause-others_numbered g c =
    let n = subst (λ (s : Orders). AreNumberedBelow c.args.next.now s) (sym c.take_all-resting.ensures.rest)
    (all_after (λ k. k.1 < c.args.next.now) (limit_at c.args.rank) c.args.quantity c.args.others.now c.requires.others_numbered) in
    numbered_more c.take_all-resting.new.self c.args.next.now n
