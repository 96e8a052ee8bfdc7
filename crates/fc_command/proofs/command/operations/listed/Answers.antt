use Rattle.std.proofs.Common.{◌≡◌, IfOk, IfErr, map, Some, refl, subst}
use Rattle.fc_base.specs.Copies.{MayRefuseCopies}
use Rattle.fc_set.specs.Operations.{difference, symmetric_difference, common, union}
use Rattle.fc_set.proofs.CopiedFacts.{lends_rest}
use Rattle.fc_command.proofs.command.operations.listed.Goals as goal

pub copies_of-requires : goal.copies_of-requires
copies_of-requires g c = λ k. ((refl, tt), (c.requires.copied, (c.requires.same, (tt, tt))))

pub returns-in-Difference-clause-copies : goal.returns-in-Difference-clause-copies
returns-in-Difference-clause-copies g c =
    let w = c.difference.result in
    rw c.in-Difference.is (subst (λ v. IfOk c.copies_of.result (λ copies. copies.items ≡ map Some (difference g.K.Ord.cmp v.left v.right)))
    c.difference.ensures.sides (c.copies_of.ensures.copies (difference g.K.Ord.cmp w.left w.right)
    (lends_rest (λ v. difference g.K.Ord.cmp v.left v.right) w)))

pub returns-in-Difference-clause-error : goal.returns-in-Difference-clause-error
returns-in-Difference-clause-error g c =
    let w = c.difference.result in
    rw c.in-Difference.is (subst (λ v. IfErr c.copies_of.result (MayRefuseCopies g.K.TryClone.may_refuse (difference g.K.Ord.cmp v.left v.right)))
    c.difference.ensures.sides (c.copies_of.ensures.error (difference g.K.Ord.cmp w.left w.right)
    (lends_rest (λ v. difference g.K.Ord.cmp v.left v.right) w)))

pub copies_of-requires-in-SymmetricDifference : goal.copies_of-requires-in-SymmetricDifference
copies_of-requires-in-SymmetricDifference g c = λ k. ((refl, tt), (c.requires.copied, (c.requires.same, (tt, tt))))

pub returns-in-SymmetricDifference-clause-copies : goal.returns-in-SymmetricDifference-clause-copies
returns-in-SymmetricDifference-clause-copies g c =
    let w = c.symmetric_difference.result in
    rw c.in-SymmetricDifference.is (subst (λ v. IfOk c.copies_of-in-SymmetricDifference.result
    (λ copies. copies.items ≡ map Some (symmetric_difference g.K.Ord.cmp v.left v.right))) c.symmetric_difference.ensures.sides
    (c.copies_of-in-SymmetricDifference.ensures.copies (symmetric_difference g.K.Ord.cmp w.left w.right)
    (lends_rest (λ v. symmetric_difference g.K.Ord.cmp v.left v.right) w)))

pub returns-in-SymmetricDifference-clause-error : goal.returns-in-SymmetricDifference-clause-error
returns-in-SymmetricDifference-clause-error g c =
    let w = c.symmetric_difference.result in
    rw c.in-SymmetricDifference.is (subst (λ v. IfErr c.copies_of-in-SymmetricDifference.result
    (MayRefuseCopies g.K.TryClone.may_refuse (symmetric_difference g.K.Ord.cmp v.left v.right))) c.symmetric_difference.ensures.sides
    (c.copies_of-in-SymmetricDifference.ensures.error (symmetric_difference g.K.Ord.cmp w.left w.right)
    (lends_rest (λ v. symmetric_difference g.K.Ord.cmp v.left v.right) w)))

pub copies_of-requires-in-Intersection : goal.copies_of-requires-in-Intersection
copies_of-requires-in-Intersection g c = λ k. ((refl, tt), (c.requires.copied, (c.requires.same, (tt, tt))))

pub returns-in-Intersection-clause-copies : goal.returns-in-Intersection-clause-copies
returns-in-Intersection-clause-copies g c =
    let w = c.intersection.result in
    rw c.in-Intersection.is (subst (λ l. IfOk c.copies_of-in-Intersection.result (λ copies. copies.items ≡ map Some l)) c.intersection.ensures.all
    (c.copies_of-in-Intersection.ensures.copies (common g.K.Ord.cmp w.left w.right) (lends_rest (λ v. common g.K.Ord.cmp v.left v.right) w)))

pub returns-in-Intersection-clause-error : goal.returns-in-Intersection-clause-error
returns-in-Intersection-clause-error g c =
    let w = c.intersection.result in
    rw c.in-Intersection.is (subst (λ l. IfErr c.copies_of-in-Intersection.result (MayRefuseCopies g.K.TryClone.may_refuse l)) c.intersection.ensures.all
    (c.copies_of-in-Intersection.ensures.error (common g.K.Ord.cmp w.left w.right) (lends_rest (λ v. common g.K.Ord.cmp v.left v.right) w)))

pub copies_of-requires-in-Union : goal.copies_of-requires-in-Union
copies_of-requires-in-Union g c = λ k. ((refl, tt), (c.requires.copied, (c.requires.same, (tt, tt))))

pub returns-in-Union-clause-copies : goal.returns-in-Union-clause-copies
returns-in-Union-clause-copies g c =
    let w = c.union.result in
    rw c.in-Union.is (subst (λ v. IfOk c.copies_of-in-Union.result (λ copies. copies.items ≡ map Some (union g.K.Ord.cmp v.left v.right)))
    c.union.ensures.sides (c.copies_of-in-Union.ensures.copies (union g.K.Ord.cmp w.left w.right) (lends_rest (λ v. union g.K.Ord.cmp v.left v.right) w)))

pub returns-in-Union-clause-error : goal.returns-in-Union-clause-error
returns-in-Union-clause-error g c =
    let w = c.union.result in
    rw c.in-Union.is (subst (λ v. IfErr c.copies_of-in-Union.result (MayRefuseCopies g.K.TryClone.may_refuse (union g.K.Ord.cmp v.left v.right)))
    c.union.ensures.sides (c.copies_of-in-Union.ensures.error (union g.K.Ord.cmp w.left w.right) (lends_rest (λ v. union g.K.Ord.cmp v.left v.right) w)))
