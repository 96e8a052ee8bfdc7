use Rattle.std.proofs.Common.{length, ap, arith}
use Rattle.std.proofs.lemmas.Bool.{ltb-true, lt-ltb}
use Rattle.fc_tree_node.specs.Node.{own_pairs}
use Rattle.fc_tree_search.proofs.search.search.Goals as goal

pub returns-in-Err-clause-room : goal.returns-in-Err-clause-room
returns-in-Err-clause-room g c =
    let e = ap (λ n. length (own_pairs n)) c.in-Err.ensures.leaf in
    (λ h. let lt = ltb-true _ _ h in omega arith, λ h. lt-ltb _ _ (omega arith))
