use Rattle.std.proofs.Common.{◌≡◌, ◌+◌, ◌-◌, [], ◌++◌, length, take, drop, sym, ◌∙◌, arith, length-append, length-take, length-drop, take_all}
use Rattle.std.proofs.lemmas.List.{drop_all}
use Rattle.fc_tree_slots.specs.Cells.{present, row, IsPacked}
use Rattle.fc_tree_slots.proofs.Laid.{opened, packed, cut_row, open_up}
use Rattle.fc_tree_slots.proofs.slots.Slots.move_tail.Given as given
use Rattle.fc_tree_slots.proofs.slots.Slots.move_tail.Goals as goal

pub overflow_sub-end : goal.overflow_sub-end
overflow_sub-end g c = omega (arith, (opened c.self.inside _ c.self.invariant c.self.view_is).long, c.requires.in_bounds)

pub overflow_add-end : goal.overflow_add-end
overflow_add-end g c =
    let o = opened c.self.inside _ c.self.invariant c.self.view_is in let u = opened c.other.inside _ c.other.invariant c.other.view_is in
    record { fits = omega (arith, o.long, u.long, c.requires.room, g.N.fits) }

pub carry-requires-clause-source_laid : goal.carry-requires-clause-source_laid
carry-requires-clause-source_laid g c =
    let s = c.self.inside in let xs = c.args.self.now in let o = opened s xs c.self.invariant c.self.view_is in
    let m = g.row.N - s.len in
    let f = c.args.from in (take f xs, drop f xs, m, o.is ∙ cut_row xs f m, omega (arith, o.long, length-take f xs), omega (arith, o.long, length-drop f xs))

pub carry-requires-clause-target_laid : goal.carry-requires-clause-target_laid
carry-requires-clause-target_laid g c =
    let s = c.self.inside in let o = opened s _ c.self.invariant c.self.view_is in
    let t = c.other.inside in let ys = c.args.other.now in let u = opened t ys c.other.invariant c.other.view_is in
    let q = t.len + (s.len - c.args.from) - t.len in
    (ys, [], g.row.N - (t.len + q), u.is ∙ open_up ys q g.row.N t.len (omega (arith, o.long, u.long)), u.long, omega arith)

source : (g : given.Over) (c : goal.After-other-1 g) → IsPacked c.carry.new.source c.args.from g.row.N
    × (present c.carry.new.source ≡ take c.args.from c.args.self.now)
source g c =
    let s = c.self.inside in let xs = c.args.self.now in let o = opened s xs c.self.invariant c.self.view_is in let t = c.other.inside in
    let m = g.row.N - s.len in
    let f = c.args.from in let q = t.len + (s.len - f) - t.len in
    let far : length (take f xs) ≡ f = omega (arith, o.long, length-take f xs) in let size : length (drop f xs) ≡ q = omega (arith, o.long, length-drop f xs) in
    packed c.carry.new.source (take f xs) q m f g.row.N
    (c.carry.ensures.source (take f xs) (drop f xs) m (o.is ∙ cut_row xs f m) far (omega arith)
    ∙ (λ d. row (take f xs) q (drop_all q (drop f xs) (omega arith) d) m)) (sym far) (omega (arith, o.long, o.fits))

target : (g : given.Over) (c : goal.After-other-1 g) → IsPacked c.carry.new.target (c.other.inside.len + (c.self.inside.len - c.args.from)) g.row.N
    × (present c.carry.new.target ≡ c.args.other.now ++ drop c.args.from c.args.self.now)
target g c =
    let s = c.self.inside in let xs = c.args.self.now in let o = opened s xs c.self.invariant c.self.view_is in let t = c.other.inside in
    let ys = c.args.other.now in let u = opened t ys c.other.invariant c.other.view_is in
    let m = g.row.N - s.len in
    let f = c.args.from in let q = t.len + (s.len - f) - t.len in let w = g.row.N - (t.len + q) in
    let far : length (take f xs) ≡ f = omega (arith, o.long, length-take f xs) in let size : length (drop f xs) ≡ q = omega (arith, o.long, length-drop f xs) in
    packed c.carry.new.target (ys ++ drop f xs) 0 w (t.len + (s.len - f)) g.row.N
    (c.carry.ensures.target (take f xs) (drop f xs) ys [] m w (o.is ∙ cut_row xs f m) far (omega arith)
    (u.is ∙ open_up ys q g.row.N t.len (omega (arith, o.long, u.long))) u.long ∙ (λ d. row (ys ++ take_all q (drop f xs) (omega arith) d) 0 [] w))
    (omega (arith, u.long, length-append ys (drop f xs))) (omega (arith, o.long, u.long))

pub invariant_of-self : goal.invariant_of-self
invariant_of-self g c = (source g c).0

pub invariant_of-other : goal.invariant_of-other
invariant_of-other g c = (target g c).0

pub returns-clause-items : goal.returns-clause-items
returns-clause-items g c = (source g c).1

pub returns-clause-other : goal.returns-clause-other
returns-clause-other g c = (target g c).1

pub returns-clause-moves : goal.returns-clause-moves
returns-clause-moves g c = omega (arith, (opened c.self.inside _ c.self.invariant c.self.view_is).long, c.requires.in_bounds, c.carry.ensures.moves)
