use Rattle.std.proofs.Common.{◌++◌, ◌∷◌, [], ap, ◌∙◌, arith}
use denote.Param.{param}
use Rattle.fc_tree_node.specs.Node.{pairs_of}
use Rattle.fc_tree_drain.specs.Opened.{before_back}
use Rattle.fc_tree_drain.proofs.Sizes.{nodes_fit}
use Rattle.fc_tree_build.proofs.growing.graft_full.Goals as goal

pub put_in_room-requires : goal.put_in_room-requires
put_in_room-requires g c =
    let l = c.requires.levels in (
      nodes_fit (param 0 g.row.K) (param 1 g.row.V) g.row.A g.A.Allocator g.met.A.Handle.small,
      ((l.0, rw c.replace-leaf.ensures.value l.1), (c.has_room.ensures.0 c.if-not-has_room.false, c.requires.low)),
    )

pub returns-in-Ok-clause-pairs : goal.returns-in-Ok-clause-pairs
returns-in-Ok-clause-pairs g c =
    c.put_in_room.ensures.pairs ∙ ap (λ n. before_back c.args.spine.now ++ (pairs_of n ++ c.args.pair ∷ [])) c.replace-leaf.ensures.value

pub returns-in-Ok-clause-short : goal.returns-in-Ok-clause-short
returns-in-Ok-clause-short g c d long few = omega (arith, c.put_in_room.ensures.length, long)
