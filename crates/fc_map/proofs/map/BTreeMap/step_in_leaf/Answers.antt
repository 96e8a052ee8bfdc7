use Rattle.std.proofs.Common.{◌+◌, ◌-◌, arith, ap, refl}
use Rattle.fc_map.proofs.EndFacts.{IsInLeaf, in_leaf, step_within}
use Rattle.fc_map.proofs.map.BTreeMap.step_in_leaf.Given as given
use Rattle.fc_map.proofs.map.BTreeMap.step_in_leaf.Goals as goal
use Rattle.fc_map.proofs.map.BTreeMap.step_in_leaf.Goals.{After-len-last}

inside : (g : given.Over) (c : After-len-last g) → IsInLeaf c.args.path.now c.args.gone.now
inside g c =
    let o = c.requires.some in
    in_leaf c.args.self.now c.args.path.now c.args.gone.now o.0 (rw c.self.view_is at c.self.invariant.1) c.requires.gap o.2

pub overflow_sub-last : goal.overflow_sub-last
overflow_sub-last g c =
    let some = (inside g (goal.at.overflow_sub-last g c).After-len-last).some in
    omega (arith, some)

pub overflow_add-place : goal.overflow_add-place
overflow_add-place g c =
    let i = inside g (goal.at.overflow_add-place g c).After-len-last in
    let fits = i.fits (c.len-last.result - 1) (omega (arith, i.some, c.len-last.ensures.value)) in
    let step = c.step.ensures in
    omega (arith, fits, step)

pub overflow_add-gone : goal.overflow_add-gone
overflow_add-gone g c =
    let i = inside g (goal.at.overflow_add-gone g c).After-len-last in
    let fits = i.fits (c.len-last.result - 1) (omega (arith, i.some, c.len-last.ensures.value)) in
    omega (arith, fits)

pub returns : goal.returns
returns g c =
    let sound = rw c.self.view_is at c.self.invariant.1 in
    let i = inside g (goal.at.returns g c).After-len-last in
    let r = step_within c.args.self.now c.args.path.now c.args.gone.now _ _ sound i (omega (arith, i.some, c.len-last.ensures.value))
    (ap (λ s. s + c.args.gone.now) c.step.ensures) c.requires.gap in
    record { way = r.way_is; small = r.small; place = r.place_is; before = r.before; gone = refl; step = r.count; sound = sound }
