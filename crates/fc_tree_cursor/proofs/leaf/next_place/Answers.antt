use Rattle.std.proofs.Common.{◌≡◌, ◌<◌, ◌-◌, suc, length, sym, subst, arith}
use Rattle.fc_base.specs.Sizes.{capacity}
use Rattle.fc_tree_node.specs.Node.{IsLevelled}
use Rattle.fc_tree_cursor.specs.Leaf.{IsHolder}
use Rattle.fc_tree_cursor.proofs.LeafFacts.{is_holder, own_small, next_edge}
use Rattle.fc_tree_cursor.proofs.Ways.{set_length}
use Rattle.fc_tree_cursor.proofs.leaf.next_place.Given as given
use Rattle.fc_tree_cursor.proofs.leaf.next_place.Goals as goal
use Rattle.fc_tree_cursor.proofs.leaf.next_place.Goals.{After-step-place}

holder : (g : given.Over) (c : After-step-place g)
    → IsHolder c.args.gap.now c.args.root.now c.lowest_with_next-level.result.1 c.lowest_with_next-level.result.0.now
holder g c =
    let e = c.lowest_with_next-level.ensures in
    is_holder c.args.gap.now c.args.root.now c.lowest_with_next-level.result.0.now c.requires.levels.0 c.lowest_with_next-level.result.1 c.requires.levels.2
    c.requires.gap (record { way = e.way; own = e.own; before = e.before })

pub go_down-run-requires-clause-levels : goal.go_down-run-requires-clause-levels
go_down-run-requires-clause-levels g c =
    let level = c.lowest_with_next-level.result.1 in
    let long : length c.args.gap.now ≡ length c.set.new.self = sym (set_length c.args.gap.now c.set.new.self level _ c.set.ensures) in
    let h = holder g (goal.at.go_down-run-requires-clause-levels g c).After-step-place in
    subst (λ k. IsLevelled (k - suc level) c.lowest_with_next-level.result.0.now) long h.5

small : (g : given.Over) (c : After-step-place g) → c.step-place.result < capacity
small g c =
    let found = c.lowest_with_next-level.result in
    let s = own_small c.args.gap.now c.args.root.now found.1 found.0.now (holder g c) in
    omega (arith, s, c.step-place.ensures)

pub overflow_add-place : goal.overflow_add-place
overflow_add-place g c = omega (arith, small g (goal.at.overflow_add-place g c).After-step-place)

pub set-requires-clause-small : goal.set-requires-clause-small
set-requires-clause-small g c = omega (arith, small g (goal.at.set-requires-clause-small g c).After-step-place)

pub returns : goal.returns
returns g c =
    let found = c.lowest_with_next-level.result in
    let h = holder g (goal.at.returns g c).After-step-place in
    let e = c.go_down-run.ensures in
    let r = next_edge c.args.gap.now c.set.new.self c.go_down-run.new.gap c.args.root.now found.0.now found.1 c.step-place.result c.go_down-run.result
    c.requires.gap.0 h c.step-place.ensures c.set.ensures (record { gap_is = e.gap; run_is = e.run; run_all = e.all }) in
    record { way = h.0; own = c.step-place.ensures; place = r.place_is; before = r.before; gap = r.gap_is; run = r.run_is; all = r.run_all }
