use Rattle.std.proofs.Common.{rules, ◌∙◌, arith}
use Rattle.std.proofs.lemmas.Result.{IfOk-weaker}
use Rattle.fc_tree_build.proofs.Builders.{made_enough, made_room}
use Rattle.fc_tree_build.proofs.builder.Builder.try_for_given_leaves.Goals as goal

pub try_with_leaves-requires : goal.try_with_leaves-requires
try_with_leaves-requires g c = (
  search rules,
  (
    made_enough c.args.n c.leaf_count.result c.min.result c.leaf_count.ensures c.min.ensures,
    omega (arith, c.leaf_count.ensures, c.min.ensures),
  ),
)

pub returns-clause-ok : goal.returns-clause-ok
returns-clause-ok g c =
    let room = made_room c.args.n c.leaf_count.result c.min.result c.leaf_count.ensures c.min.ensures in
    IfOk-weaker c.try_with_leaves.result _ _ (λ b ok. (ok.0, ok.1, ok.2 ∙ room)) c.try_with_leaves.ensures.ok

pub returns-clause-blocks : goal.returns-clause-blocks
returns-clause-blocks g c = c.try_with_leaves.ensures.blocks
