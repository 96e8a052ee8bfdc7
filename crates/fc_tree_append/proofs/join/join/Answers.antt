use Rattle.std.proofs.Common.{◌≡◌, ◌+◌, ◌-◌, ◌≤◌, ◌++◌, ◌∷◌, [], ap, sym, subst, ◌∙◌, arith, append_assoc}
use Rattle.fc_base.specs.Sizes.{most_levels}
use Rattle.fc_tree_node.specs.Node.{pairs_of, IsLevelled}
use Rattle.fc_tree_split.proofs.Rebalanced.{within_more}
use Rattle.fc_tree_append.proofs.join.join.Given as given
use Rattle.fc_tree_append.proofs.join.join.Goals as goal
use Rattle.fc_tree_append.proofs.join.join.Goals.{Start}

-- the levels of the taller tree, above those of the other
their_levels : (g : given.Over) (c : Start g) → c.args.our_height ≤ c.args.their_height
    → IsLevelled (c.args.their_height - c.args.our_height + c.args.our_height) c.args.right
their_levels g c le = subst (λ h. IsLevelled h c.args.right) (omega arith) c.requires.right.1.1

our_levels : (g : given.Over) (c : Start g) → c.args.their_height ≤ c.args.our_height
    → IsLevelled (c.args.our_height - c.args.their_height + c.args.their_height) c.args.left
our_levels g c le = subst (λ h. IsLevelled h c.args.left) (omega arith) c.requires.left.1.1

pub remove_last-pair-requires : goal.remove_last-pair-requires
remove_last-pair-requires g c = record { sound = (c.args.our_height, c.requires.left.1) }

pub graft-requires : goal.graft-requires
graft-requires g c =
    record {
      levels = (
        c.args.our_height,
        their_levels g (goal.at.graft-requires g c).Start (omega arith),
        (c.remove_last-pair.ensures.levels c.args.our_height c.requires.left.1).0,
      );
      some = λ e. absurd (omega arith);
      spares = omega arith;
    }

pub returns-then-our_height-their_height-clause-pairs : goal.returns-then-our_height-their_height-clause-pairs
returns-then-our_height-their_height-clause-pairs g c =
    c.graft.ensures.pairs ∙ sym (append_assoc _ (c.remove_last-pair.result ∷ []) (pairs_of c.args.right))
    ∙ ap (λ zs. zs ++ pairs_of c.args.right) (sym c.remove_last-pair.ensures.pairs)

pub returns-then-our_height-their_height-clause-levels : goal.returns-then-our_height-their_height-clause-levels
returns-then-our_height-their_height-clause-levels g c =
    let levels = their_levels g (goal.at.returns-then-our_height-their_height-clause-levels g c).Start (omega arith) in
    let l = c.requires.left in
    within_more _ most_levels _ (omega arith) (c.graft.ensures.levels c.args.our_height levels (c.remove_last-pair.ensures.levels c.args.our_height l.1).0)

pub remove_first-pair-requires : goal.remove_first-pair-requires
remove_first-pair-requires g c = record { sound = (c.args.their_height, c.requires.right.1) }

pub graft-requires-then-our_height-their_height-2 : goal.graft-requires-then-our_height-their_height-2
graft-requires-then-our_height-their_height-2 g c =
    record {
      levels = (
        c.args.their_height,
        our_levels g (goal.at.graft-requires-then-our_height-their_height-2 g c).Start (omega arith),
        (c.remove_first-pair.ensures.levels c.args.their_height c.requires.right.1).0,
      );
      some = λ e. absurd (omega arith);
      spares = omega arith;
    }

pub returns-then-our_height-their_height-2-clause-pairs : goal.returns-then-our_height-their_height-2-clause-pairs
returns-then-our_height-their_height-2-clause-pairs g c =
    c.graft-then-our_height-their_height-2.ensures.pairs ∙ ap (λ zs. pairs_of c.args.left ++ zs) (sym c.remove_first-pair.ensures.pairs)

pub returns-then-our_height-their_height-2-clause-levels : goal.returns-then-our_height-their_height-2-clause-levels
returns-then-our_height-their_height-2-clause-levels g c =
    let levels = our_levels g (goal.at.returns-then-our_height-their_height-2-clause-levels g c).Start (omega arith) in
    let r = c.requires.right in
    within_more _ most_levels _ (omega arith)
    (c.graft-then-our_height-their_height-2.ensures.levels c.args.their_height levels (c.remove_first-pair.ensures.levels c.args.their_height r.1).0)

pub join_under_root-requires-clause-levels : goal.join_under_root-requires-clause-levels
join_under_root-requires-clause-levels g c =
    let same : c.args.our_height ≡ c.args.their_height = omega arith in (
      c.args.their_height,
      subst (λ h. IsLevelled h c.args.left) same c.requires.left.1.1,
      (c.remove_first-pair.ensures.levels c.args.their_height c.requires.right.1).0,
    )

pub returns-clause-pairs : goal.returns-clause-pairs
returns-clause-pairs g c = c.join_under_root.ensures.pairs ∙ ap (λ zs. pairs_of c.args.left ++ zs) (sym c.remove_first-pair.ensures.pairs)

pub returns-clause-levels : goal.returns-clause-levels
returns-clause-levels g c =
    let same : c.args.our_height ≡ c.args.their_height = omega arith in
    let r = c.requires.right in
    within_more _ most_levels _ (omega arith) (c.join_under_root.ensures.levels c.args.their_height
    (subst (λ h. IsLevelled h c.args.left) same c.requires.left.1.1) (c.remove_first-pair.ensures.levels c.args.their_height r.1).0)

pub returns-then-our_height-their_height-clause-blocks : goal.returns-then-our_height-their_height-clause-blocks
returns-then-our_height-their_height-clause-blocks g c = omega (arith, c.remove_last-pair.ensures.blocks, c.graft.ensures.blocks)

pub returns-then-our_height-their_height-2-clause-blocks : goal.returns-then-our_height-their_height-2-clause-blocks
returns-then-our_height-their_height-2-clause-blocks g c =
    omega (arith, c.remove_first-pair.ensures.blocks, c.graft-then-our_height-their_height-2.ensures.blocks)

pub returns-clause-blocks : goal.returns-clause-blocks
returns-clause-blocks g c = omega (arith, c.remove_first-pair.ensures.blocks, c.take.ensures.len, c.join_under_root.ensures.blocks)
