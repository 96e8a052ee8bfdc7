use Rattle.std.proofs.Common.{◌≡◌, inl, inr, arith, refl}
use Rattle.std.specs.Ordering.{nat_cmp}
use Rattle.std.proofs.lemmas.Bool.{cases_lt}
use Rattle.std.proofs.lemmas.Cmp.{nat_cmp_total}
use Rattle.fc_map.specs.Entries.{entries}
use Rattle.fc_laws.proofs.Laws.{at_put, some_put}
use Rattle.callers_of_map.proofs.requests.put_hundred.Goals as goal

pub loop-number-preserved : goal.loop-number-preserved
loop-number-preserved c = record {
  there = λ number below. rw c.in_ok-try_insert.ensures.put
      (let list = entries c.loop-number.map in
      let last = c.loop-number.number in
      elim (cases_lt number last) [
        | inl less ↦ some_put nat_cmp list last c.args.value number nat_cmp_total (c.loop-number.invariant.there number less)
        | inr least ↦ let same : number ≡ last = omega (arith, least, below) in rw same (rw (at_put nat_cmp list last c.args.value nat_cmp_total) refl)
      ]);
}
