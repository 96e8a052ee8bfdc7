use Rattle.std.proofs.Common.{◌≡◌, ◌-◌, length, slice_get, Some, sym, ap, subst, ◌∙◌, arith}
use Rattle.fc_tree_node.specs.Node.{pairs_of}
use Rattle.fc_tree_node.specs.Tree.{entries}
use Rattle.fc_tree_split.proofs.Cuts.{root_sound}
use Rattle.fc_tree_build.proofs.Ends.{less_if, less_then}
use Rattle.fc_tree_append.proofs.After.{both_ascend, last_before}
use Rattle.fc_tree_append.proofs.append.is_after.Goals as goal

pub last_pair-requires : goal.last_pair-requires
last_pair-requires g c = let r = root_sound _ _ c.in-Some.is c.requires.sound.0 in (r.0, r.2)

pub first_pair-requires : goal.first_pair-requires
first_pair-requires g c = let r = root_sound _ _ c.in-Some-theirs.is c.requires.sound.1 in (r.0, r.2)

pub returns-clause-after : goal.returns-clause-after
returns-clause-after g c h =
    let ours = entries c.args.ours.now in
    let theirs = entries c.args.theirs.now in
    let l : pairs_of c.in-Some.left ≡ ours = ap (λ o. entries o) (sym c.in-Some.is) in
    let r : pairs_of c.in-Some-theirs.right ≡ theirs = ap (λ o. entries o) (sym c.in-Some-theirs.is) in
    let last = subst (λ xs. slice_get xs (length xs - 1) ≡ Some c.last_pair.result.now) l c.last_pair.ensures in
    let first = subst (λ xs. slice_get xs 0 ≡ Some c.first_pair.result.now) r c.first_pair.ensures in
    both_ascend g.K.Ord.cmp g.met.K.Ord.total (length ours - 1) ours theirs c.last_pair.result.now c.first_pair.result.now (omega arith) last first
    (sym c.compare.ensures.value ∙ less_if _ _ c.is_lt.ensures h) c.requires.order.0 c.requires.order.1

pub returns-clause-told : goal.returns-clause-told
returns-clause-told g c a =
    let ours = entries c.args.ours.now in
    let theirs = entries c.args.theirs.now in
    let l : pairs_of c.in-Some.left ≡ ours = ap (λ o. entries o) (sym c.in-Some.is) in
    let r : pairs_of c.in-Some-theirs.right ≡ theirs = ap (λ o. entries o) (sym c.in-Some-theirs.is) in
    let last = subst (λ xs. slice_get xs (length xs - 1) ≡ Some c.last_pair.result.now) l c.last_pair.ensures in
    let first = subst (λ xs. slice_get xs 0 ≡ Some c.first_pair.result.now) r c.first_pair.ensures in
    let less = last_before g.K.Ord.cmp g.met.K.Ord.total (length ours - 1) ours theirs _ _ (omega arith) last first a in
    less_then _ _ c.is_lt.ensures (c.compare.ensures.value ∙ less)
