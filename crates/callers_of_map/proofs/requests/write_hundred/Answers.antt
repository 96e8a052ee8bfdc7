use Rattle.std.specs.Ordering.{nat_cmp}
use Rattle.std.proofs.Common.{◌∙◌}
use Rattle.std.proofs.lemmas.Cmp.{nat_cmp_total}
use Rattle.fc_map.specs.Entries.{entries}
use Rattle.fc_laws.proofs.Laws.{some_put}
use Rattle.callers_of_map.proofs.requests.write_hundred.Goals as goal

pub loop-number-preserved : goal.loop-number-preserved
loop-number-preserved c =
    let done = c.loop-number.invariant in record {
      there = λ number below. rw c.in_ok-try_insert_asked.ensures.put
          (some_put nat_cmp (entries c.loop-number.map) c.loop-number.number c.args.value number nat_cmp_total (done.there number below));
      none = c.try_insert_asked.ensures.none (done.there c.loop-number.number c.loop-number-test.true) ∙ done.none;
    }
