use Rattle.std.proofs.Common.{◌≡◌, ◌+◌, ◌-◌, ◌≤◌, ◌∙◌, length, ap, arith, subst}
use Rattle.fc_base.specs.Ascending.{IsAscending}
use Rattle.fc_tree_node.specs.Node.{own_pairs, pairs_of, IsLevelled}
use Rattle.fc_map.specs.Entries.{entries}
use Rattle.fc_base.proofs.Laws.{ascending_put}
use Rattle.fc_tree_insertion.proofs.InsertedTrees.{length_in}
use Rattle.fc_map.proofs.InsertFacts.{put_in}
use Rattle.fc_map.proofs.map.BTreeMap.insert_in_room.Goals as goal

pub invariant_of-self : goal.invariant_of-self
invariant_of-self g c =
    let root = c.in-Some.root in
    let path = c.args.path.now in
    let new = c.insert_in_leaf.new.node in
    let cmp = g.K.Ord.cmp in
    let gap = rw c.in-Some.is at (rw (← c.self.view_is) at c.requires.gap) in
    let sound = rw c.in-Some.is at c.self.invariant.1 in
    let steps = gap.levels sound.0 sound.2.1 in
    let parts = rw c.as_slice.ensures.value at c.insert_in_leaf.ensures.pairs in
    let longer = length_in root path sound steps c.args.pair _ gap.way parts in
    let ascending : IsAscending cmp (pairs_of root) = rw c.in-Some.is at c.self.invariant.0 in
    let len : c.self.inside.len ≡ length (pairs_of root) = c.self.invariant.2 ∙ ap (λ r. length (entries r)) c.in-Some.is in
    let size : length (own_pairs root) ≤ length (own_pairs new) = c.insert_in_leaf.ensures.size in
    let same : length c.as_slice.result.now - 1 ≡ sound.0 = rw c.as_slice.ensures.value (omega (arith, steps)) in
    let levels = subst (λ h. IsLevelled h new) same c.insert_in_leaf.ensures.levels in
    let put = put_in root path sound cmp c.args.pair.0 c.args.pair.1 _ gap parts in (
      rw put (ascending_put cmp _ c.args.pair.0 c.args.pair.1 g.met.K.Ord.total ascending),
      (sound.0, sound.1, (omega (arith, size, sound.2.0), levels)),
      omega (arith, longer, len),
    )

pub returns-clause-put : goal.returns-clause-put
returns-clause-put g c =
    let gap = rw c.in-Some.is at (rw (← c.self.view_is) at c.requires.gap) in
    let parts = rw c.as_slice.ensures.value at c.insert_in_leaf.ensures.pairs in
    rw (← c.self.view_is) (rw c.in-Some.is (put_in c.in-Some.root c.args.path.now (rw c.in-Some.is at c.self.invariant.1) g.K.Ord.cmp c.args.pair.0
    c.args.pair.1 _ gap parts))

pub returns-clause-ascending : goal.returns-clause-ascending
returns-clause-ascending g c = (invariant_of-self g c).0

pub returns-clause-length : goal.returns-clause-length
returns-clause-length g c =
    let len : c.self.inside.len + 1 ≡ length (pairs_of c.insert_in_leaf.new.node) = (invariant_of-self g c).2 in
    rw (← c.self.view_is) (omega (arith, len, c.self.invariant.2))

pub returns-clause-blocks : goal.returns-clause-blocks
returns-clause-blocks g c = rw (← c.self.view_is) (rw c.in-Some.is c.insert_in_leaf.ensures.blocks)
