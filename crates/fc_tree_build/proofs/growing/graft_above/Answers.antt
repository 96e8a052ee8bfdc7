use Rattle.std.proofs.Common.{rules, ◌++◌, ◌∷◌, [], ap, ◌∙◌, arith}
use Rattle.fc_base.specs.Sizes.{most_height}
use Rattle.fc_tree_node.specs.Node.{pairs_of}
use Rattle.fc_tree_drain.specs.Opened.{before_back}
use Rattle.fc_tree_build.proofs.LoadFacts.{lists_few}
use Rattle.fc_tree_build.proofs.growing.graft_above.Goals as goal

pub attach-requires : goal.attach-requires
attach-requires g c =
    let i = c.in-Ok.ensures.inner in (
      search rules,
      (
        (0, c.requires.levels.0, rw c.replace-leaf.ensures.value c.requires.levels.1),
        (i.1, (omega arith, (most_height, omega arith, c.requires.low, omega arith))),
      ),
    )

pub returns-in-Ok-clause-levels : goal.returns-in-Ok-clause-levels
returns-in-Ok-clause-levels g c = (
  c.attach.ensures.levels 0 c.requires.levels.0 (rw c.replace-leaf.ensures.value c.requires.levels.1),
  c.attach.ensures.short most_height c.requires.low (omega (arith, c.needed.ensures, c.in-Ok.ensures.inner.2)),
)

pub returns-in-Ok-clause-pairs : goal.returns-in-Ok-clause-pairs
returns-in-Ok-clause-pairs g c =
    c.attach.ensures.pairs ∙ ap (λ n. before_back c.args.spine.now ++ (pairs_of n ++ c.args.pair ∷ [])) c.replace-leaf.ensures.value

pub returns-in-Ok-clause-at_most : goal.returns-in-Ok-clause-at_most
returns-in-Ok-clause-at_most g c = let few = lists_few c.needed.result in omega (arith, few, c.needed.ensures, c.in-Ok.ensures.at_most)

pub returns-in-Err-clause-at_most : goal.returns-in-Err-clause-at_most
returns-in-Err-clause-at_most g c = let few = lists_few c.needed.result in omega (arith, few, c.needed.ensures, c.in-Err.ensures.at_most)
