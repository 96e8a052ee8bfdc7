use Rattle.std.proofs.Common.{◌≡◌, ◌+◌, ◌^◌, ◌<◌, [], ◌∷◌, ◌++◌, length, sym, ap, ◌∙◌, arith, length-append}
use denote.Param.{param, layout, copied}
use prog.Memory.{size}
use Rattle.fc_tree_build.specs.contracts.builder.Builder as builder
use Rattle.fc_tree_build.proofs.StackSizes.{builder_fits}
use Rattle.fc_tree_append.proofs.JoinFacts.{step_less, step_equal, step_greater}
use Rattle.fc_tree_append.proofs.merge.step.Given as given
use Rattle.fc_tree_append.proofs.merge.step.Goals as goal
use Rattle.fc_tree_append.proofs.merge.step.Goals.{After-next-pair, After-next-pair-in-Equal, After-next-pair-in-Greater}

-- the builder's size
fits : (g : given.Over) → size (layout (builder.the_row (param 0 g.row.K) (param 1 g.row.V) (copied 2 g.row.A) g.A.Allocator)) < 2 ^ 63
fits g = builder_fits (param 0 g.row.K) (param 1 g.row.V) g.row.A g.A.Allocator g.met.A.Handle.small

-- room for the pair that was taken, and for the rest of both open leaves
after_ours : (g : given.Over) (c : After-next-pair g) → c.next-pair.new.pairs.in_leaf + c.args.theirs.now.in_leaf < c.next-pair.new.builder.room
after_ours g c =
    let r = c.requires.room in
    c.next-pair.ensures.room c.args.theirs.now.in_leaf r.3.0 (omega (arith, r.0, r.3.1)) r.1

after_both : (g : given.Over) (c : After-next-pair-in-Equal g)
    → c.next-pair-in-Equal.new.pairs.in_leaf + c.next.new.pairs.in_leaf < c.next-pair-in-Equal.new.builder.room
after_both g c =
    let r = c.requires.room in
    let n = c.next.ensures in
    let one = ap length n.pairs in
    let left = n.room c.args.theirs.now.in_leaf r.3.0 (omega (arith, r.0, r.3.1)) r.1 in
    c.next-pair-in-Equal.ensures.room c.next.new.pairs.in_leaf n.leaf.0 (omega (arith, r.0, n.leaf.1, n.limit)) (omega arith)

after_theirs : (g : given.Over) (c : After-next-pair-in-Greater g)
    → c.next-pair-in-Greater.new.pairs.in_leaf + c.args.ours.now.in_leaf < c.next-pair-in-Greater.new.builder.room
after_theirs g c =
    let r = c.requires.room in
    c.next-pair-in-Greater.ensures.room c.args.ours.now.in_leaf r.2.0 (omega (arith, r.0, r.2.1)) (omega (arith, r.1))

pub push-requires : goal.push-requires
push-requires g c =
    let left = after_ours g (goal.at.push-requires g c).After-next-pair in
    (fits g, omega arith)

pub push-requires-in-Equal : goal.push-requires-in-Equal
push-requires-in-Equal g c =
    let left = after_both g (goal.at.push-requires-in-Equal g c).After-next-pair-in-Equal in
    (fits g, omega arith)

pub push-requires-in-Greater : goal.push-requires-in-Greater
push-requires-in-Greater g c =
    let left = after_theirs g (goal.at.push-requires-in-Greater g c).After-next-pair-in-Greater in
    (fits g, omega arith)

pub returns-in-Less-clause-room : goal.returns-in-Less-clause-room
returns-in-Less-clause-room g c =
    let r = c.requires.room in
    let left = after_ours g (goal.at.returns-in-Less-clause-room g c).After-next-pair in
    let one = ap length c.next-pair.ensures.pairs in
    (omega (arith, r.0), omega arith, c.next-pair.ensures.leaf, r.3)

pub returns-in-Equal-clause-room : goal.returns-in-Equal-clause-room
returns-in-Equal-clause-room g c =
    let r = c.requires.room in
    let left = after_both g (goal.at.returns-in-Equal-clause-room g c).After-next-pair-in-Equal in
    let ours = ap length c.next.ensures.pairs in
    let theirs = ap length c.next-pair-in-Equal.ensures.pairs in
    (omega (arith, r.0), omega arith, c.next.ensures.leaf, c.next-pair-in-Equal.ensures.leaf)

pub returns-in-Greater-clause-room : goal.returns-in-Greater-clause-room
returns-in-Greater-clause-room g c =
    let r = c.requires.room in
    let left = after_theirs g (goal.at.returns-in-Greater-clause-room g c).After-next-pair-in-Greater in
    let one = ap length c.next-pair-in-Greater.ensures.pairs in
    (omega (arith, r.0), omega arith, r.2, c.next-pair-in-Greater.ensures.leaf)

pub returns-in-Less-clause-pairs : goal.returns-in-Less-clause-pairs
returns-in-Less-clause-pairs g c =
    let n = c.next-pair.ensures in
    step_less g.K.Ord.cmp g.met.K.Ord.total _ _ c.first.result.now c.first-2.result.now _ _ c.first.ensures.1 c.first-2.ensures.1 c.requires.order.0
    c.requires.order.1 _ _ _ _ n.pairs (sym c.in-Less.ensures.value) (c.push.ensures.pairs ∙ ap (λ zs. zs ++ c.next-pair.result ∷ []) n.kept)

pub returns-in-Equal-clause-pairs : goal.returns-in-Equal-clause-pairs
returns-in-Equal-clause-pairs g c =
    let m = c.next.ensures in
    let n = c.next-pair-in-Equal.ensures in
    step_equal g.K.Ord.cmp g.met.K.Ord.total _ _ c.first.result.now c.first-2.result.now _ _ c.first.ensures.1 c.first-2.ensures.1 c.requires.order.0
    c.requires.order.1 _ _ _ _ _ _ m.pairs n.pairs (sym c.in-Equal.ensures.value)
    (c.push-in-Equal.ensures.pairs ∙ ap (λ zs. zs ++ c.next-pair-in-Equal.result ∷ []) (n.kept ∙ m.kept))

pub returns-in-Greater-clause-pairs : goal.returns-in-Greater-clause-pairs
returns-in-Greater-clause-pairs g c =
    let n = c.next-pair-in-Greater.ensures in
    step_greater g.K.Ord.cmp g.met.K.Ord.total _ _ c.first.result.now c.first-2.result.now _ _ c.first.ensures.1 c.first-2.ensures.1 c.requires.order.0
    c.requires.order.1 _ _ _ _ n.pairs (sym c.in-Greater.ensures.value)
    (c.push-in-Greater.ensures.pairs ∙ ap (λ zs. zs ++ c.next-pair-in-Greater.result ∷ []) n.kept)

pub returns-in-Less-clause-filled : goal.returns-in-Less-clause-filled
returns-in-Less-clause-filled g c =
    let pair = c.next-pair.result in
    let put = ap length (c.push.ensures.pairs ∙ ap (λ zs. zs ++ pair ∷ []) c.next-pair.ensures.kept) ∙ length-append _ (pair ∷ []) in
    omega (arith, c.next-pair.ensures.limit, c.push.ensures.limit)

pub returns-in-Equal-clause-filled : goal.returns-in-Equal-clause-filled
returns-in-Equal-clause-filled g c =
    let pair = c.next-pair-in-Equal.result in
    let same = c.next-pair-in-Equal.ensures.kept ∙ c.next.ensures.kept in
    let put = ap length (c.push-in-Equal.ensures.pairs ∙ ap (λ zs. zs ++ pair ∷ []) same) ∙ length-append _ (pair ∷ []) in
    omega (arith, c.next.ensures.limit, c.next-pair-in-Equal.ensures.limit, c.push-in-Equal.ensures.limit)

pub returns-in-Greater-clause-filled : goal.returns-in-Greater-clause-filled
returns-in-Greater-clause-filled g c =
    let pair = c.next-pair-in-Greater.result in
    let put = ap length (c.push-in-Greater.ensures.pairs ∙ ap (λ zs. zs ++ pair ∷ []) c.next-pair-in-Greater.ensures.kept) ∙ length-append _ (pair ∷ []) in
    omega (arith, c.next-pair-in-Greater.ensures.limit, c.push-in-Greater.ensures.limit)

pub returns-in-Less-clause-blocks : goal.returns-in-Less-clause-blocks
returns-in-Less-clause-blocks g c = omega (arith, c.next-pair.ensures.blocks, c.push.ensures.blocks)

pub returns-in-Equal-clause-blocks : goal.returns-in-Equal-clause-blocks
returns-in-Equal-clause-blocks g c = omega (arith, c.next.ensures.blocks, c.next-pair-in-Equal.ensures.blocks, c.push-in-Equal.ensures.blocks)

pub returns-in-Greater-clause-blocks : goal.returns-in-Greater-clause-blocks
returns-in-Greater-clause-blocks g c = omega (arith, c.next-pair-in-Greater.ensures.blocks, c.push-in-Greater.ensures.blocks)
