use Rattle.std.proofs.Common.{◌≡◌, arith, ap, subst}
use Rattle.std.specs.Prelude.{length}
use Rattle.fc_set.specs.Items.{AreAscending}
use Rattle.fc_set.specs.Sides.{Filtering}
use Rattle.fc_set.proofs.OperationLaws.{difference_at_least, difference_at_most}
use Rattle.fc_set.proofs.set.difference.DifferenceIterator.size_hint.Goals as goal

pub returns-clause-lower : goal.returns-clause-lower
returns-clause-lower g c =
    let left : c.self.inside.ours ≡ c.args.self.now.left = ap (λ (w : Filtering g.row.T.Denot). w.left) c.self.view_is in
    let right = ap (λ (w : Filtering g.row.T.Denot). w.right) c.self.view_is in
    let least = difference_at_least g.T.Ord.cmp g.met.T.Ord.total c.args.self.now.left c.args.self.now.right
    (subst (AreAscending g.T.Ord.cmp) left c.self.invariant.0) (subst (AreAscending g.T.Ord.cmp) right c.self.invariant.1) in
    let n = ap length left in
    λ _. omega (arith, least, n, c.len-ours.ensures, c.len_of_other-theirs.ensures, c.saturating_sub.ensures)

pub returns-clause-upper : goal.returns-clause-upper
returns-clause-upper g c =
    let left : c.self.inside.ours ≡ c.args.self.now.left = ap (λ (w : Filtering g.row.T.Denot). w.left) c.self.view_is in
    let most = difference_at_most g.T.Ord.cmp g.met.T.Ord.total c.args.self.now.left c.args.self.now.right in
    let n = ap length left in
    (tt, omega (arith, most, n, c.len-ours.ensures))
