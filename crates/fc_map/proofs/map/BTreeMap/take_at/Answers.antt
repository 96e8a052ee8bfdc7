use Rattle.std.proofs.Common.{◌≡◌, ◌+◌, ◌++◌, length, sym, subst, arith}
use Rattle.fc_tree_node.specs.TreePlace.{IsPlaceIn, before_pair_in, after_pair_in}
use Rattle.fc_tree_removal.specs.Fewest.{HasFewestMoves}
use Rattle.fc_map.specs.Entries.{entries}
use Rattle.fc_map.proofs.RemoveFacts.{map_height, map_kept, map_length, map_moves}
use Rattle.fc_map.proofs.map.BTreeMap.take_at.Given as given
use Rattle.fc_map.proofs.map.BTreeMap.take_at.Goals as goal
use Rattle.fc_map.proofs.map.BTreeMap.take_at.Goals.{After-as_slice, After-remove-pair}

place : (g : given.Over) (c : After-as_slice g) → IsPlaceIn c.self.inside.root c.args.path.now
place g c = subst (λ m. IsPlaceIn m c.args.path.now) (sym c.self.view_is) c.requires

taken : (g : given.Over) (c : After-remove-pair g) → IsPlaceIn c.self.inside.root c.args.path.now
taken g c = rw (← c.self.view_is) at c.requires

rest : (g : given.Over) (c : After-remove-pair g)
    → entries c.remove-pair.new.tree ≡ before_pair_in c.self.inside.root c.args.path.now ++ after_pair_in c.self.inside.root c.args.path.now
rest g c = rw c.as_slice.ensures.value at c.remove-pair.ensures.pairs

longer : (g : given.Over) (c : After-remove-pair g) → length (entries c.self.inside.root) ≡ length (entries c.remove-pair.new.tree) + 1
longer g c = map_length c.self.inside.root c.args.path.now c.self.invariant.1 (taken g c) c.remove-pair.new.tree (rest g c)

pub remove-pair-requires-clause-sound : goal.remove-pair-requires-clause-sound
remove-pair-requires-clause-sound g c =
    map_height _ _ c.self.invariant.1 (place g (goal.at.remove-pair-requires-clause-sound g c).After-as_slice)

pub remove-pair-requires-clause-place : goal.remove-pair-requires-clause-place
remove-pair-requires-clause-place g c =
    let at = (goal.at.remove-pair-requires-clause-place g c).After-as_slice in
    subst (λ p. IsPlaceIn c.self.inside.root p) (sym c.as_slice.ensures.value) (place g at)

pub overflow_sub-self : goal.overflow_sub-self
overflow_sub-self g c =
    let more = longer g (goal.at.overflow_sub-self g c).After-remove-pair in
    let len = c.self.invariant.2 in
    omega arith

pub invariant_of-self : goal.invariant_of-self
invariant_of-self g c =
    let at = (goal.at.invariant_of-self g c).After-remove-pair in
    let more = longer g at in
    let len = c.self.invariant.2 in
    let kept = map_kept _ _ c.self.invariant.1 (taken g at) _ (rest g at) g.K.Ord.cmp c.self.invariant.0 c.remove-pair.ensures.levels in
    (kept.0, kept.1, omega arith)

pub returns-clause-pair : goal.returns-clause-pair
returns-clause-pair g c = rw (← c.self.view_is) (rw c.as_slice.ensures.value at c.remove-pair.ensures.pair)

pub returns-clause-rest : goal.returns-clause-rest
returns-clause-rest g c = rw (← c.self.view_is) (rest g (goal.at.returns-clause-rest g c).After-remove-pair)

pub returns-clause-length : goal.returns-clause-length
returns-clause-length g c = rw (← c.self.view_is) (longer g (goal.at.returns-clause-length g c).After-remove-pair)

pub returns-clause-moves : goal.returns-clause-moves
returns-clause-moves g c =
    let at = (goal.at.returns-clause-moves g c).After-remove-pair in
    rw (← c.self.view_is)
    (map_moves _ _ c.self.invariant.1 (taken g at) c.args.count.now c.remove-pair.new.count c.remove-pair.ensures.moves)

pub returns-clause-ascending : goal.returns-clause-ascending
returns-clause-ascending g c = (invariant_of-self g c).0

pub returns-clause-sound : goal.returns-clause-sound
returns-clause-sound g c = (invariant_of-self g c).1

pub returns-clause-fewest : goal.returns-clause-fewest
returns-clause-fewest g c =
    subst (λ m. HasFewestMoves m c.remove-pair.new.tree c.args.count.now c.remove-pair.new.count) c.self.view_is c.remove-pair.ensures.fewest

pub returns-clause-blocks : goal.returns-clause-blocks
returns-clause-blocks g c = rw (← c.self.view_is) c.remove-pair.ensures.blocks
