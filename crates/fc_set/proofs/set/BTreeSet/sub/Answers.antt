use Rattle.std.proofs.Common.{refl, ◌-◌, ◌^◌, ◌≤◌, length, arith, IfOk, IfErr, sym, subst}
use Rattle.std.specs.List.{AllZip}
use Rattle.fc_set.specs.Copied.{MayCopyRefuse}
use Rattle.fc_set.specs.Items.{items, AreAscending}
use Rattle.fc_set.specs.Operations.{difference}
use Rattle.fc_set.proofs.CopiedFacts.{lends_rest}
use Rattle.fc_set.proofs.OperationLaws.{difference_at_most}
use Rattle.fc_set.proofs.OperatorFacts.{ascending_difference}
use Rattle.fc_set.proofs.set.BTreeSet.sub.Goals as goal

pub try_copied-requires : goal.try_copied-requires
try_copied-requires g c =
    let w = c.difference.result in
    λ k. (
      (refl, tt),
      (
        c.requires.copies,
        (
          c.requires.equal,
          (
            (tt, tt),
            (
              (tt, λ other e. e),
              (
                difference g.T.Ord.cmp w.left w.right,
                lends_rest (λ v. difference g.T.Ord.cmp v.left v.right) w,
                subst (λ v. AreAscending g.T.Ord.cmp (difference g.T.Ord.cmp v.left v.right)) (sym c.difference.ensures.sides)
                    (ascending_difference g.T.Ord.cmp (items c.args.self.now) (items c.args.other.now) c.difference.ensures.ascending.0),
                λ k. subst (λ v. length (difference g.T.Ord.cmp v.left v.right) ≤ 2 ^ 64 - 1) (sym c.difference.ensures.sides)
                    (let most = difference_at_most g.T.Ord.cmp g.met.T.Ord.total (items c.args.self.now) (items c.args.other.now) in
                    let len = c.len-len.ensures.value in omega arith),
              ),
            ),
          ),
        ),
      ),
    )

pub returns-clause-copied : goal.returns-clause-copied
returns-clause-copied g c =
    let w = c.difference.result in
    subst (λ v. IfOk c.try_copied.result (λ made. AllZip g.T.TryClone.same (difference g.T.Ord.cmp v.left v.right) (items made))) c.difference.ensures.sides
    (c.try_copied.ensures.copied (difference g.T.Ord.cmp w.left w.right) (lends_rest (λ v. difference g.T.Ord.cmp v.left v.right) w))

pub returns-clause-error : goal.returns-clause-error
returns-clause-error g c =
    let w = c.difference.result in
    subst (λ v. IfErr c.try_copied.result (MayCopyRefuse g.T.TryClone.may_refuse (difference g.T.Ord.cmp v.left v.right))) c.difference.ensures.sides
    (c.try_copied.ensures.error (difference g.T.Ord.cmp w.left w.right) (lends_rest (λ v. difference g.T.Ord.cmp v.left v.right) w)
    (λ k. subst (λ v. length (difference g.T.Ord.cmp v.left v.right) ≤ 2 ^ 64 - 1) (sym c.difference.ensures.sides)
    (let most = difference_at_most g.T.Ord.cmp g.met.T.Ord.total (items c.args.self.now) (items c.args.other.now) in
    let len = c.len-len.ensures.value in omega arith)))
