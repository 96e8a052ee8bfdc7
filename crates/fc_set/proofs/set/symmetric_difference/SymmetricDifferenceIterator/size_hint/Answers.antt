use Rattle.std.proofs.Common.{◌≡◌, length, arith, ap}
use Rattle.fc_set.proofs.OperationLaws.{symmetric_at_most, within_sum}
use Rattle.fc_set.proofs.set.symmetric_difference.SymmetricDifferenceIterator.size_hint.Goals as goal

pub returns-clause-upper : goal.returns-clause-upper
returns-clause-upper g c =
    let most = symmetric_at_most g.T.Ord.cmp g.met.T.Ord.total c.self.inside.sides.left c.self.inside.sides.right c.lens-ours.ensures.ascending.0
    c.lens-ours.ensures.ascending.1 in
    let ours : c.lens-ours.result.0 ≡ length c.self.inside.sides.left = ap (λ p. p.0) c.lens-ours.ensures.lens in
    let theirs : c.lens-ours.result.1 ≡ length c.self.inside.sides.right = ap (λ p. p.1) c.lens-ours.ensures.lens in
    rw (← c.self.view_is) (within_sum c.checked_add.result c.lens-ours.result.0 c.lens-ours.result.1 _ c.checked_add.ensures
    (omega (arith, most, ours, theirs)))
