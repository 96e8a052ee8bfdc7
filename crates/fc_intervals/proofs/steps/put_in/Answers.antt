use Rattle.std.proofs.Common.{◌^◌, ◌<◌, length, ap, subst}
use Rattle.std.specs.Prelude.{is_some}
use Rattle.fc_base.specs.Parts.{at}
use Rattle.fc_map.specs.Entries.{entries}
use Rattle.fc_intervals.proofs.Lengths.{full_new}
use Rattle.fc_intervals.proofs.steps.put_in.Goals as goal

pub returns-in-Ok-clause-full : goal.returns-in-Ok-clause-full
returns-in-Ok-clause-full g c =
    let s = entries c.args.map.now in
    full_new (length s) (at g.K.Ord.cmp s c.args.at) _ (subst (λ n. n < 2 ^ 64) c.len-len.ensures.value c.len-len.type_inv) c.in-Ok.ensures.full

pub returns-in-Err-clause-error : goal.returns-in-Err-clause-error
returns-in-Err-clause-error g c =
    (ap is_some c.in-Err.ensures.new_key, subst (λ n. n < 2 ^ 64) c.len-len.ensures.value c.len-len.type_inv, c.in-Err.ensures.error)
