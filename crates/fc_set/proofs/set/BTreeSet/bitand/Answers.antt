use Rattle.std.proofs.Common.{refl, ◌-◌, ◌^◌, ◌≤◌, length, arith, IfOk, IfErr, sym, subst}
use Rattle.std.specs.List.{AllZip}
use Rattle.fc_set.specs.Copied.{MayCopyRefuse}
use Rattle.fc_set.specs.Items.{items, AreAscending}
use Rattle.fc_set.specs.Operations.{common}
use Rattle.fc_set.proofs.CopiedFacts.{lends_rest}
use Rattle.fc_set.proofs.OperationLaws.{intersection_at_most}
use Rattle.fc_set.proofs.OperatorFacts.{ascending_intersection}
use Rattle.fc_set.proofs.set.BTreeSet.bitand.Goals as goal

pub try_copied-requires : goal.try_copied-requires
try_copied-requires g c =
    let w = c.intersection.result in
    λ k. (
      (refl, tt),
      (
        c.requires.copies,
        (
          c.requires.equal,
          (
            (tt, tt),
            (
              (tt, λ other e. e),
              (
                common g.T.Ord.cmp w.left w.right,
                lends_rest (λ v. common g.T.Ord.cmp v.left v.right) w,
                subst (λ l. AreAscending g.T.Ord.cmp l) (sym c.intersection.ensures.all)
                    (ascending_intersection g.T.Ord.cmp (items c.args.self.now) (items c.args.other.now) c.intersection.ensures.ascending.0
                    c.intersection.ensures.ascending.1),
                λ k. subst (λ l. length l ≤ 2 ^ 64 - 1) (sym c.intersection.ensures.all)
                    (let most = intersection_at_most g.T.Ord.cmp g.met.T.Ord.total (items c.args.self.now) (items c.args.other.now) in
                    let len = c.len-len.ensures.value in omega arith),
              ),
            ),
          ),
        ),
      ),
    )

pub returns-clause-copied : goal.returns-clause-copied
returns-clause-copied g c =
    let w = c.intersection.result in
    subst (λ l. IfOk c.try_copied.result (λ made. AllZip g.T.TryClone.same l (items made))) c.intersection.ensures.all
    (c.try_copied.ensures.copied (common g.T.Ord.cmp w.left w.right) (lends_rest (λ v. common g.T.Ord.cmp v.left v.right) w))

pub returns-clause-error : goal.returns-clause-error
returns-clause-error g c =
    let w = c.intersection.result in
    subst (λ l. IfErr c.try_copied.result (MayCopyRefuse g.T.TryClone.may_refuse l)) c.intersection.ensures.all
    (c.try_copied.ensures.error (common g.T.Ord.cmp w.left w.right) (lends_rest (λ v. common g.T.Ord.cmp v.left v.right) w)
    (λ k. subst (λ l. length l ≤ 2 ^ 64 - 1) (sym c.intersection.ensures.all)
    (let most = intersection_at_most g.T.Ord.cmp g.met.T.Ord.total (items c.args.self.now) (items c.args.other.now) in
    let len = c.len-len.ensures.value in omega arith)))
