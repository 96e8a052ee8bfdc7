use Rattle.std.proofs.Common.{◌≡◌, [], ◌∷◌, ◌++◌, ◌-◌, take, sym, ◌∙◌, arith}
use Rattle.fc_tree_node.specs.Node.{own_pairs}
use Rattle.fc_tree_build.proofs.Ends.{last_taken, after_told, less_if, less_then}
use Rattle.fc_tree_build.proofs.growing.is_after.Goals as goal

pub returns : goal.returns
returns g c =
    let own = own_pairs c.args.leaf.now in
    let i = c.len.result - 1 in
    let last : own ≡ take i own ++ c.pair.result.now ∷ [] = last_taken own i c.pair.result.now (omega arith) c.pair.ensures in (
      λ less. (take i own, c.pair.result.now, last, sym c.cmp.ensures ∙ less_if _ _ c.is_lt.ensures less),
      λ after. less_then _ _ c.is_lt.ensures (c.cmp.ensures ∙ after_told g.K.Ord.cmp (take i own) own c.pair.result.now c.args.key.now last after),
    )
