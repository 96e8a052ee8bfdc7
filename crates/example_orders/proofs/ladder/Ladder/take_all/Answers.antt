use Rattle.std.proofs.Common.{◌≡◌, ◌∙◌, ◌-◌, List, [], refl, sym, subst, arith, rules, of_calls}
use Rattle.example_orders.specs.Orders.{Orders}
use Rattle.example_orders.specs.Fills.{fills_of, AreTold}
use Rattle.example_orders.specs.declared.ladder.Fill.{Fill}
use Rattle.example_orders.proofs.FillFacts.{no_more, no_fills, next_fill}
use Rattle.example_orders.proofs.ladder.Ladder.take_all.Goals as goal

pub returns-clause-left : goal.returns-clause-left
returns-clause-left g c = sym (no_more c.args.limit c.loop-left.left c.loop-left.self c.loop-left-test.false).1 ∙ c.loop-left.invariant.missing

pub returns-clause-rest : goal.returns-clause-rest
returns-clause-rest g c = sym (no_more c.args.limit c.loop-left.left c.loop-left.self c.loop-left-test.false).0 ∙ c.loop-left.invariant.rest

pub loop-left-preserved : goal.loop-left-preserved
loop-left-preserved g c =
    let i = c.loop-left.invariant in
    let limit = c.args.limit in
    let left = c.loop-left.left in
    let fill = c.in-Some.fill in
    let next = next_fill limit left c.loop-left.self fill c.loop-left-test.true (sym c.take_best.ensures.fill ∙ c.in-Some.is) in
    let step = goal.F-step g in
    record {
      callable = search of_calls;
      at_most = omega (arith, i.at_most);
      rest = search rules;
      missing = search rules;
      told = λ last rest.
          let later = subst (λ (s : Orders). AreTold step c.tell.new.self (fills_of limit (left - fill.quantity) s) last) c.take_best.ensures.rest rest in
          i.told last (subst (λ (fills : List Fill). AreTold step c.loop-left.tell fills last) (sym next) (c.tell.new.self, c.tell.ensures, later));
    }

pub returns-clause-told : goal.returns-clause-told
returns-clause-told g c =
    let none : fills_of c.args.limit c.loop-left.left c.loop-left.self ≡ [] = no_fills c.args.limit c.loop-left.left c.loop-left.self (omega arith) in
    c.loop-left.invariant.told c.loop-left.tell (rw none refl)
