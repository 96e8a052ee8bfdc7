use Rattle.std.proofs.Common.{◌-◌, List, [], ◌∷◌, ap, ◌∙◌, arith, rules}
use Rattle.std.specs.Map.{remove_entry}
use Rattle.fc_cache.specs.declared.held.Held.{Held}
use Rattle.fc_cache.specs.Entries.{key_at, rest_within, total_cost}
use Rattle.fc_cache.specs.Handed.{GivenEntry}
use Rattle.fc_cache.proofs.Costs.{total_push, without_replaced}
use Rattle.fc_cache.proofs.Evicted.{handed_both}
use Rattle.fc_cache.proofs.cache.Cache.try_put_with.Goals as goal

pub overflow_sub-others : goal.overflow_sub-others
overflow_sub-others g c =
    let test = g.K.PartialEq.eq c.args.key in
    (without_replaced test c.self.inside.recency.entries c.args.key c.in-Ok.replaced _ _ c.in-Ok.ensures.old c.hand_over.ensures.cost c.self.invariant.0).0

pub evict-requires-clause-sum : goal.evict-requires-clause-sum
evict-requires-clause-sum g c =
    let test = g.K.PartialEq.eq c.args.key in
    let es = c.self.inside.recency.entries in (
      remove_entry test es,
      (key_at test es c.args.key, record { value = c.args.value; cost = c.args.cost }) ∷ [],
      c.in-Ok.ensures.entries,
      (without_replaced test es c.args.key c.in-Ok.replaced _ _ c.in-Ok.ensures.old c.hand_over.ensures.cost c.self.invariant.0).1,
    )

pub invariant_of-self : goal.invariant_of-self
invariant_of-self g c =
    let test = g.K.PartialEq.eq c.args.key in
    let es = c.self.inside.recency.entries in
    let others = remove_entry test es in
    let held : Held g.row.V.Denot = record { value = c.args.value; cost = c.args.cost } in
    let costs = (without_replaced test es c.args.key c.in-Ok.replaced _ _ c.in-Ok.ensures.old c.hand_over.ensures.cost c.self.invariant.0).1 in
    let done = c.evict.ensures.entries others ((key_at test es c.args.key, held) ∷ []) c.in-Ok.ensures.entries costs in
    let sum = ap total_cost done.0 ∙ total_push (rest_within (c.self.inside.budget - c.args.cost) others) (key_at test es c.args.key, held) in
    (omega (arith, done.1, sum), omega (arith, c.evict.ensures.within, c.if-self-cost.false))

pub returns-in-Ok : goal.returns-in-Ok
returns-in-Ok g c =
    let test = g.K.PartialEq.eq c.args.key in
    let es = c.self.inside.recency.entries in
    let others = remove_entry test es in
    let held : Held g.row.V.Denot = record { value = c.args.value; cost = c.args.cost } in
    let costs = (without_replaced test es c.args.key c.in-Ok.replaced _ _ c.in-Ok.ensures.old c.hand_over.ensures.cost c.self.invariant.0).1 in
    let stay : List (g.row.K.Denot × Held g.row.V.Denot) = (key_at test es c.args.key, held) ∷ [] in
    let done = c.evict.ensures.entries others stay c.in-Ok.ensures.entries costs in
    let more = c.evict.ensures.handed others stay c.in-Ok.ensures.entries costs in
    rw (← c.self.view_is) (record {
      put = λ i. record { entries = done.0 i; budget = c.self.inside.budget };
      handed = (
        c.evict.new.f,
        handed_both (GivenEntry g.F.FnMut) c.in-Ok.replaced _ _ _ _ _ c.in-Ok.ensures.old c.hand_over.ensures.handed more,
      );
      fits = search rules;
      succeeds = search rules;
      error = search rules;
      back = search rules;
      unchanged = search rules;
      cached = search rules;
    })
