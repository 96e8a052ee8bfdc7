use Rattle.std.proofs.Common.{ℕ, ◌≤◌, Some, sym, subst, ◌∙◌}
use Rattle.fc_base.specs.Sizes.{most_height}
use Rattle.fc_tree_node.specs.Node.{IsLevelled}
use Rattle.fc_tree_node.specs.Tree.{IsSoundMap}
use Rattle.fc_tree_split.proofs.Cuts.{within_sound}
use Rattle.fc_tree_cursor.specs.Gap.{AreEndsIn}
use Rattle.fc_tree_retain.specs.Filtered.{FiltersPair}
use Rattle.fc_tree_cursor.specs.Ends.{AreInOrder, IsEnd}
use Rattle.fc_tree_cursor.proofs.PathEnds.{AreEndsOf, ends_of}
use Rattle.fc_tree_retain.specs.Stretch.{IsRangeFiltered}
use Rattle.fc_tree_retain.proofs.Between.{rooted}
use Rattle.fc_tree_retain.proofs.stretch.filter_root_range.Given as given
use Rattle.fc_tree_retain.proofs.stretch.filter_root_range.Goals as goal
use Rattle.fc_tree_retain.proofs.stretch.filter_root_range.Goals.{In-Some}

rooted_height : (g : given.Over) (c : In-Some g)
    → (h : ℕ) × (h ≤ most_height) × IsLevelled h c.in-Some.root × AreEndsOf h c.in-Some.root c.args.front.now c.args.back.now
rooted_height g c =
    let is = sym c.take.ensures.value ∙ c.in-Some.is in
    let s : IsSoundMap (Some c.in-Some.root) = subst IsSoundMap is c.requires.sound in
    let e : AreEndsIn (Some c.in-Some.root) c.args.front.now c.args.back.now = subst (λ m. AreEndsIn m c.args.front.now c.args.back.now) is c.requires.ends in
    (s.0, s.1, s.2.1, ends_of s.0 c.in-Some.root c.args.front.now c.args.back.now s.2.1 e)

pub filter_range-requires : goal.filter_range-requires
filter_range-requires g c =
    let root = c.in-Some.root in
    let s = rooted_height g (goal.at.filter_range-requires g c).In-Some in
    let f = sym c.as_slice.ensures.value in
    let b = sym c.as_slice-in-Some.ensures.value in
    record {
      ends = (s.0, s.2, subst (λ p. IsEnd s.0 p root) f s.3.front_end, subst (λ p. IsEnd s.0 p root) b s.3.back_end);
      order = subst (AreInOrder c.as_slice.result.now) b (subst (λ p. AreInOrder p c.args.back.now) f s.3.order);
      callable = c.requires.callable;
    }

pub without_empty_roots-requires : goal.without_empty_roots-requires
without_empty_roots-requires g c =
    let s = rooted_height g (goal.at.without_empty_roots-requires g c).In-Some in
    (s.0, c.filter_range.ensures.underfull s.0 s.2)

pub returns-in-Some-clause-sound : goal.returns-in-Some-clause-sound
returns-in-Some-clause-sound g c =
    let s = rooted_height g (goal.at.returns-in-Some-clause-sound g c).In-Some in
    within_sound s.0 _ s.1 (c.without_empty_roots.ensures.levels s.0 (c.filter_range.ensures.underfull s.0 s.2))

pub returns-in-Some-clause-filtered : goal.returns-in-Some-clause-filtered
returns-in-Some-clause-filtered g c =
    let R = FiltersPair g.S.Filter.asked g.S.Filter.given in
    let front = c.args.front.now in
    let s = c.args.filter.now in
    let t = c.filter_range.new.filter in
    let root = c.in-Some.root in
    let new = c.filter_range.new.node in
    let e = subst (λ p. IsRangeFiltered R s t front p root new) c.as_slice-in-Some.ensures.value
    (subst (λ p. IsRangeFiltered R s t p c.as_slice-in-Some.result.now root new) c.as_slice.ensures.value c.filter_range.ensures.filtered) in
    rooted R s t front c.args.back.now c.args.tree.now _ root new (sym c.take.ensures.value ∙ c.in-Some.is) c.requires.sound c.requires.ends e
    c.without_empty_roots.ensures.pairs
