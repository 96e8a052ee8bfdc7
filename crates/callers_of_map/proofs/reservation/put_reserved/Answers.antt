use Rattle.std.proofs.Common.{◌≡◌, ℕ, ◌+◌, ◌≤◌, length, Option, None, Some, MatchOption, ap, ◌∙◌, rules, arith}
use Rattle.std.specs.Vec.Iter.{into_iter_items}
use Rattle.fc_map.specs.Entries.{entries}
use Rattle.fc_laws.proofs.Laws.{extended_more}
use Rattle.callers_of_map.proofs.Lists.{moved_on}
use Rattle.callers_of_map.proofs.reservation.put_reserved.Goals as goal

used_one : {X : Type 0} (o : Option X) (new old : ℕ) → MatchOption o (new + 1 ≡ old) (λ _. new ≡ old) → old ≤ new + 1
used_one None new old u = omega arith
used_one (Some x) new old u = omega arith

-- one pair more is put in, where no old value is dropped and where one is
pub loop-key-preserved : goal.loop-key-preserved
loop-key-preserved g c =
    let done = c.loop-key.invariant in
    let put = c.insert_reserved.ensures in
    let next = c.in-Some.ensures.steps.0 in
    let one = used_one c.insert_reserved.result _ _ put.places in
    let fewer = ap length next in
    record {
      all = moved_on c.args.pairs.items c.loop-key.yielded (c.in-Some.key, c.in-Some.value) _ _ done.all next;
      made = extended_more g.K.Ord.cmp (entries c.args.map.now) c.loop-key.yielded (entries c.loop-key.map) _ c.in-Some.key c.in-Some.value done.made put.put;
      places = omega arith;
      total = omega (arith, put.total, put.pairs, done.total);
    }

pub loop-key-preserved-in-Some : goal.loop-key-preserved-in-Some
loop-key-preserved-in-Some g c =
    let done = c.loop-key.invariant in
    let put = c.insert_reserved.ensures in
    let next = c.in-Some.ensures.steps.0 in
    let one = used_one c.insert_reserved.result _ _ put.places in
    let fewer = ap length next in
    record {
      all = moved_on c.args.pairs.items c.loop-key.yielded (c.in-Some.key, c.in-Some.value) _ _ done.all next;
      made = extended_more g.K.Ord.cmp (entries c.args.map.now) c.loop-key.yielded (entries c.loop-key.map) _ c.in-Some.key c.in-Some.value done.made put.put;
      places = omega arith;
      total = omega (arith, put.total, put.pairs, done.total);
    }
