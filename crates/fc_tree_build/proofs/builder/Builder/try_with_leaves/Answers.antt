use Rattle.std.proofs.Common.{◌≡◌, length, None, Some, MatchOption, refl, sym, ◌∙◌, ap, subst, min, arith, Option}
use denote.Param.{param}
use Rattle.fc_tree_drain.proofs.Sizes.{nodes_fit}
use Rattle.fc_tree_build.specs.Spine.{IsSpine}
use Rattle.fc_tree_build.proofs.Builders.{first_last, first_none, first_room, first_leaves, first_enough, first_pairs, first_two, no_pair}
use Rattle.fc_tree_node.proofs.BlockFacts.{all_blocks}
use Rattle.fc_tree_build.proofs.BuiltBlocks.{new_asked, first_blocks}
use Rattle.fc_tree_build.proofs.builder.Builder.try_with_leaves.Given as given
use Rattle.fc_tree_build.proofs.builder.Builder.try_with_leaves.Goals as goal
use Rattle.fc_tree_build.proofs.builder.Builder.try_with_leaves.Goals.{After-pop-last}

none_was : {X P : Type 0} (Q : X → Type 0) (o : Option X) → MatchOption o P Q → o ≡ None → P
none_was Q None m e = m
none_was Q (Some x) m e = absurd (cc e)

-- with no last leaf none was made
none : (g : given.Over) (c : After-pop-last g) → c.pop-last.result ≡ None → length c.in_ok-leaves.leaves.items ≡ 0
none g c e = let w = (none_was _ _ c.pop-last.ensures.cases e).0 in omega arith

pub invariant_of-result : goal.invariant_of-result
invariant_of-result g c =
    let at = (goal.at.invariant_of-result g c).After-pop-last in
    let ok = c.in_ok-leaves.ensures.ok in
    let all = c.in_ok-leaves.leaves.items in
    let left = c.pop-last.new.self.items in
    let last = c.pop-last.result in
    let e = c.pop-last.ensures.items in
    let pairs = ap length (first_none all left last e ok.1) in
    let room = first_room c.args.count all left last e ok.0 ok.1 (none g at) in (
      first_last c.args.n all left c.new.result last c.new.ensures e ok.1 (none g at) (λ z. no_pair c.args.count c.args.n c.requires.enough (sym ok.0 ∙ z)),
      subst (IsSpine 0) (sym c.new.ensures) tt,
      first_two c.args.count c.args.n _ _ (omega (arith, c.pop-last.ensures.capacity)) room c.requires.enough,
      first_leaves all left last e ok.1,
      c.in_ok-inner.ensures.ok.1,
      first_enough c.args.n _ _ c.new.result c.new.ensures c.ranges.n.fits (omega arith) (c.in_ok-inner.ensures.ok.0 ∙ c.inner_count.ensures),
    )

pub returns-clause-ok : goal.returns-clause-ok
returns-clause-ok g c =
    let ok = c.in_ok-leaves.ensures.ok in
    let e = c.pop-last.ensures.items in
    let room = first_room c.args.count _ _ c.pop-last.result e ok.0 ok.1 (none g (goal.at.returns-clause-ok g c).After-pop-last) in
    (first_pairs _ _ _ _ c.new.ensures e ok.1, refl, ap (λ k. min c.args.n k) room)

pub new-requires : goal.new-requires
new-requires g c = nodes_fit (param 0 g.row.K) (param 1 g.row.V) g.row.A g.A.Allocator g.met.A.Handle.small

pub returns-clause-blocks : goal.returns-clause-blocks
returns-clause-blocks g c =
    let ok = c.in_ok-leaves.ensures.ok in
    let none = ap (λ s. all_blocks s) c.new.ensures in
    let leaves = first_blocks _ c.pop-last.new.self.items c.pop-last.result c.pop-last.ensures.items ok.1 in
    new_asked _ _ _ _ _ c.args.count c.inner_count.result _ _ _ none leaves ok.0 c.in_ok-inner.ensures.ok.0 c.in_ok-leaves.ensures.requests
    c.in_ok-inner.ensures.requests
