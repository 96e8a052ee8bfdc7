use Rattle.std.proofs.Common.{refl, ◌<◌, ◌≤◌, ◌-◌, ◌^◌, length, arith, IfOk, IfErr, IsErr, sym, subst}
use Rattle.std.specs.List.{AllZip}
use Rattle.fc_set.specs.Copied.{MayCopyRefuse}
use Rattle.fc_set.specs.Items.{items, AreAscending}
use Rattle.fc_set.specs.Operations.{symmetric_difference}
use Rattle.fc_set.proofs.CopiedFacts.{lends_rest}
use Rattle.fc_set.proofs.OperationLaws.{symmetric_at_most}
use Rattle.fc_set.proofs.OperatorFacts.{ascending_symmetric_difference}
use Rattle.fc_set.proofs.set.BTreeSet.bitxor.Goals as goal

pub try_copied-requires : goal.try_copied-requires
try_copied-requires g c =
    let w = c.symmetric_difference.result in
    λ k. (
      (refl, tt),
      (
        c.requires.copies,
        (
          c.requires.equal,
          (
            (tt, tt),
            (
              (tt, λ other e. e),
              (
                symmetric_difference g.T.Ord.cmp w.left w.right,
                lends_rest (λ v. symmetric_difference g.T.Ord.cmp v.left v.right) w,
                subst (λ v. AreAscending g.T.Ord.cmp (symmetric_difference g.T.Ord.cmp v.left v.right)) (sym c.symmetric_difference.ensures.sides)
                    (ascending_symmetric_difference g.T.Ord.cmp (items c.args.self.now) (items c.args.other.now) g.met.T.Ord.total
                    c.symmetric_difference.ensures.ascending.0),
                λ k. subst (λ v. length (symmetric_difference g.T.Ord.cmp v.left v.right) ≤ 2 ^ 64 - 1)
                    (sym c.symmetric_difference.ensures.sides)
                    (let most = symmetric_at_most g.T.Ord.cmp g.met.T.Ord.total (items c.args.self.now) (items c.args.other.now)
                    c.symmetric_difference.ensures.ascending.0 c.symmetric_difference.ensures.ascending.1 in
                    let few = c.fit_together.ensures.0 k in omega arith),
              ),
            ),
          ),
        ),
      ),
    )

pub returns-clause-copied : goal.returns-clause-copied
returns-clause-copied g c =
    let w = c.symmetric_difference.result in
    subst (λ v. IfOk c.try_copied.result (λ made. AllZip g.T.TryClone.same (symmetric_difference g.T.Ord.cmp v.left v.right) (items made)))
    c.symmetric_difference.ensures.sides (c.try_copied.ensures.copied (symmetric_difference g.T.Ord.cmp w.left w.right)
    (lends_rest (λ v. symmetric_difference g.T.Ord.cmp v.left v.right) w))

pub returns-clause-error : goal.returns-clause-error
returns-clause-error g c =
    let w = c.symmetric_difference.result in
    subst (λ v. IfErr c.try_copied.result (MayCopyRefuse g.T.TryClone.may_refuse (symmetric_difference g.T.Ord.cmp v.left v.right)))
    c.symmetric_difference.ensures.sides (c.try_copied.ensures.error (symmetric_difference g.T.Ord.cmp w.left w.right)
    (lends_rest (λ v. symmetric_difference g.T.Ord.cmp v.left v.right) w)
    (λ k. subst (λ v. length (symmetric_difference g.T.Ord.cmp v.left v.right) ≤ 2 ^ 64 - 1) (sym c.symmetric_difference.ensures.sides)
    (let most = symmetric_at_most g.T.Ord.cmp g.met.T.Ord.total (items c.args.self.now) (items c.args.other.now) c.symmetric_difference.ensures.ascending.0
    c.symmetric_difference.ensures.ascending.1 in let few = c.fit_together.ensures.0 k in omega arith)))

pub returns-clause-full : goal.returns-clause-full
returns-clause-full g c =
    let w = c.symmetric_difference.result in
    subst (λ v. 2 ^ 64 - 1 < length (symmetric_difference g.T.Ord.cmp v.left v.right) → IsErr c.try_copied.result) c.symmetric_difference.ensures.sides
    (c.try_copied.ensures.full (symmetric_difference g.T.Ord.cmp w.left w.right) (lends_rest (λ v. symmetric_difference g.T.Ord.cmp v.left v.right) w))
