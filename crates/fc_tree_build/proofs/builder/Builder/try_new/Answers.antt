use Rattle.std.proofs.Common.{rules, inr, arith}
use Rattle.std.proofs.lemmas.Result.{IfOk-weaker}
use Rattle.fc_tree_build.proofs.Builders.{leaves_enough}
use Rattle.fc_tree_build.proofs.builder.Builder.try_new.Goals as goal

pub try_with_leaves-requires : goal.try_with_leaves-requires
try_with_leaves-requires g c =
    let all = leaves_enough c.args.n in
    (search rules, (inr (omega arith), omega arith))

pub returns-clause-ok : goal.returns-clause-ok
returns-clause-ok g c =
    let all = leaves_enough c.args.n in
    IfOk-weaker c.try_with_leaves.result _ _ (λ b ok. (ok.0, (let room = ok.2 in omega arith), ok.1)) c.try_with_leaves.ensures.ok
