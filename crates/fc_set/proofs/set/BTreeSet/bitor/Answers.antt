use Rattle.std.proofs.Common.{refl, ◌<◌, ◌≤◌, ◌-◌, ◌^◌, length, arith, IfOk, IfErr, IsErr, sym, subst}
use Rattle.std.specs.List.{AllZip}
use Rattle.fc_set.specs.Copied.{MayCopyRefuse}
use Rattle.fc_set.specs.Items.{items, AreAscending}
use Rattle.fc_set.specs.Operations.{union}
use Rattle.fc_set.proofs.CopiedFacts.{lends_rest}
use Rattle.fc_set.proofs.OperationLaws.{union_at_most}
use Rattle.fc_set.proofs.OperatorFacts.{ascending_union}
use Rattle.fc_set.proofs.set.BTreeSet.bitor.Goals as goal

pub try_copied-requires : goal.try_copied-requires
try_copied-requires g c =
    let w = c.union.result in
    λ k. (
      (refl, tt),
      (
        c.requires.copies,
        (
          c.requires.equal,
          (
            (tt, tt),
            (
              (tt, λ other e. e),
              (
                union g.T.Ord.cmp w.left w.right,
                lends_rest (λ v. union g.T.Ord.cmp v.left v.right) w,
                subst (λ v. AreAscending g.T.Ord.cmp (union g.T.Ord.cmp v.left v.right)) (sym c.union.ensures.sides)
                    (ascending_union g.T.Ord.cmp (items c.args.self.now) (items c.args.other.now) g.met.T.Ord.total c.union.ensures.ascending.1),
                λ k. subst (λ v. length (union g.T.Ord.cmp v.left v.right) ≤ 2 ^ 64 - 1) (sym c.union.ensures.sides)
                    (let most = union_at_most g.T.Ord.cmp g.met.T.Ord.total (items c.args.self.now) (items c.args.other.now) c.union.ensures.ascending.0
                    c.union.ensures.ascending.1 in let few = c.fit_together.ensures.0 k in omega arith),
              ),
            ),
          ),
        ),
      ),
    )

pub returns-clause-copied : goal.returns-clause-copied
returns-clause-copied g c =
    let w = c.union.result in
    subst (λ v. IfOk c.try_copied.result (λ made. AllZip g.T.TryClone.same (union g.T.Ord.cmp v.left v.right) (items made))) c.union.ensures.sides
    (c.try_copied.ensures.copied (union g.T.Ord.cmp w.left w.right) (lends_rest (λ v. union g.T.Ord.cmp v.left v.right) w))

pub returns-clause-error : goal.returns-clause-error
returns-clause-error g c =
    let w = c.union.result in
    subst (λ v. IfErr c.try_copied.result (MayCopyRefuse g.T.TryClone.may_refuse (union g.T.Ord.cmp v.left v.right))) c.union.ensures.sides
    (c.try_copied.ensures.error (union g.T.Ord.cmp w.left w.right) (lends_rest (λ v. union g.T.Ord.cmp v.left v.right) w)
    (λ k. subst (λ v. length (union g.T.Ord.cmp v.left v.right) ≤ 2 ^ 64 - 1) (sym c.union.ensures.sides)
    (let most = union_at_most g.T.Ord.cmp g.met.T.Ord.total (items c.args.self.now) (items c.args.other.now) c.union.ensures.ascending.0
    c.union.ensures.ascending.1 in let few = c.fit_together.ensures.0 k in omega arith)))

pub returns-clause-full : goal.returns-clause-full
returns-clause-full g c =
    let w = c.union.result in
    subst (λ v. 2 ^ 64 - 1 < length (union g.T.Ord.cmp v.left v.right) → IsErr c.try_copied.result) c.union.ensures.sides
    (c.try_copied.ensures.full (union g.T.Ord.cmp w.left w.right) (lends_rest (λ v. union g.T.Ord.cmp v.left v.right) w))
