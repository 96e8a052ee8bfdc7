use Rattle.std.proofs.Common.{◌≡◌, ◌≤◌, ◌++◌, length, sym, ap, ◌∙◌, arith, length-append}
use Rattle.fc_base.specs.Sizes.{most_levels, most_height}
use Rattle.fc_tree_node.specs.Measures.{height_of}
use Rattle.fc_tree_node.specs.Node.{pairs_of}
use Rattle.fc_tree_node.specs.Tree.{entries}
use Rattle.fc_tree_split.proofs.Cuts.{root_sound}
use Rattle.fc_tree_append.proofs.Levels.{own_height}
use Rattle.fc_tree_append.proofs.UnderRoot.{within_few}
use Rattle.fc_tree_node.specs.Blocks.{blocks_in}
use Rattle.fc_tree_append.proofs.join.try_join.Given as given
use Rattle.fc_tree_append.proofs.join.try_join.Goals as goal
use Rattle.fc_tree_append.proofs.join.try_join.Goals.{After-height-their_height}

pub height-our_height-requires : goal.height-our_height-requires
height-our_height-requires g c =
    let r = root_sound _ _ c.in-Some.is c.requires.sound.0 in
    (r.0, r.1, r.2.1)

pub height-their_height-requires : goal.height-their_height-requires
height-their_height-requires g c =
    let r = root_sound _ _ c.in-Some-theirs.is c.requires.sound.1 in
    (r.0, r.1, r.2.1)

low : (g : given.Over) (c : After-height-their_height g) → (c.height-our_height.result ≤ most_height) × (c.height-their_height.result ≤ most_height)
low g c =
    let l = own_height _ _ c.height-our_height.ensures (root_sound _ _ c.in-Some.is c.requires.sound.0) in
    let r = own_height _ _ c.height-their_height.ensures (root_sound _ _ c.in-Some-theirs.is c.requires.sound.1) in
    (l.0, r.0)

pub overflow_add-abs_diff : goal.overflow_add-abs_diff
overflow_add-abs_diff g c = let l = low g (goal.at.overflow_add-abs_diff g c).After-height-their_height in omega arith

pub try_spares-requires : goal.try_spares-requires
try_spares-requires g c = let l = low g (goal.at.try_spares-requires g c).After-height-their_height in omega arith

-- what was taken out is what was measured
pub join-requires-clause-left : goal.join-requires-clause-left
join-requires-clause-left g c =
    let same : c.in-Some.left ≡ c.in-Some-take.left = cc (c.in-Some.is, c.take.ensures.value, c.in-Some-take.is) in
    own_height _ _ (c.height-our_height.ensures ∙ ap height_of same) (root_sound _ _ (sym c.take.ensures.value ∙ c.in-Some-take.is) c.requires.sound.0)

pub join-requires-clause-right : goal.join-requires-clause-right
join-requires-clause-right g c =
    let same : c.in-Some-theirs.right ≡ c.in-Some-take-2.right = cc (c.in-Some-theirs.is, c.take-2.ensures.value, c.in-Some-take-2.is) in
    own_height _ _ (c.height-their_height.ensures ∙ ap height_of same) (root_sound _ _ (sym c.take-2.ensures.value ∙ c.in-Some-take-2.is) c.requires.sound.1)

pub returns-clause-pairs : goal.returns-clause-pairs
returns-clause-pairs g c =
    c.join.ensures.pairs ∙ ap (λ o. entries o ++ pairs_of c.in-Some-take-2.right) (sym (sym c.take.ensures.value ∙ c.in-Some-take.is))
    ∙ ap (λ o. entries c.args.ours.now ++ entries o) (sym (sym c.take-2.ensures.value ∙ c.in-Some-take-2.is))

pub returns-clause-sound : goal.returns-clause-sound
returns-clause-sound g c =
    let e = c.join.ensures.pairs ∙ ap (λ o. entries o ++ pairs_of c.in-Some-take-2.right) (sym (sym c.take.ensures.value ∙ c.in-Some-take.is))
    ∙ ap (λ o. entries c.args.ours.now ++ entries o) (sym (sym c.take-2.ensures.value ∙ c.in-Some-take-2.is)) in
    let n = ap length e ∙ length-append (entries c.args.ours.now) (entries c.args.theirs.now) in
    within_few most_levels c.join.result c.join.ensures.levels (omega arith)

pub returns-clause-requests : goal.returns-clause-requests
returns-clause-requests g c =
    rw c.in-Some.is (rw c.in-Some-theirs.is (rw (← c.height-our_height.ensures, ← c.height-their_height.ensures)
    (omega (arith, c.in_ok-spares.ensures.requests))))

pub returns-clause-blocks : goal.returns-clause-blocks
returns-clause-blocks g c =
    let ours = ap (λ o. blocks_in o) (sym c.take.ensures.value ∙ c.in-Some-take.is) in
    let theirs = ap (λ o. blocks_in o) (sym c.take-2.ensures.value ∙ c.in-Some-take-2.is) in
    omega (arith, ours, theirs, c.join.ensures.blocks, c.in_ok-spares.ensures.len, c.in_ok-spares.ensures.requests)
