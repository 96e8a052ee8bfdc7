use Rattle.std.proofs.Common.{◌∷◌, [], length, ap, ◌∙◌, arith, length-append}
use denote.Param.{param}
use Rattle.fc_tree_drain.proofs.Sizes.{drain_fits}
use Rattle.fc_map_iter.proofs.into_iter.IntoIterDoubleEndedIterator.next_back.Goals as goal

pub next_back-requires : goal.next_back-requires
next_back-requires g c =
    (drain_fits (param 0 g.row.K) (param 1 g.row.V) g.row.A g.A.Allocator g.met.A.Handle.small, omega arith)

pub invariant_of-self : goal.invariant_of-self
invariant_of-self g c =
    let fewer = ap length c.next_back.ensures ∙ length-append c.next_back.new.self (c.next_back.result ∷ []) in
    omega arith
