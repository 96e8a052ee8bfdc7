use Rattle.std.proofs.Common.{◌≡◌, arith, ap}
use Rattle.std.specs.Prelude.{length}
use Rattle.fc_set.specs.Sides.{Filtering}
use Rattle.fc_set.proofs.OperationLaws.{common_at_most}
use Rattle.fc_set.proofs.set.intersection.IntersectionIterator.size_hint.Goals as goal

pub returns-clause-upper : goal.returns-clause-upper
returns-clause-upper g c =
    let left : c.self.inside.ours ≡ c.args.self.now.left = ap (λ (w : Filtering g.row.T.Denot). w.left) c.self.view_is in
    let most = common_at_most g.T.Ord.cmp g.met.T.Ord.total c.args.self.now.left c.args.self.now.right in
    let n = ap length left in
    (tt, omega (arith, most, n, c.len.ensures))
