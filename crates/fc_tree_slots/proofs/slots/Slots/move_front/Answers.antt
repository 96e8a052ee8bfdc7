use Rattle.std.proofs.Common.{◌≡◌, ◌+◌, ◌-◌, [], ◌++◌, length, take, drop, refl, ◌∙◌, arith, length-append, length-take, length-drop, take_all}
use Rattle.std.proofs.lemmas.List.{drop_all}
use Rattle.fc_tree_slots.specs.Cells.{present, row, IsPacked}
use Rattle.fc_tree_slots.proofs.Rows.{row_cut}
use Rattle.fc_tree_slots.proofs.Laid.{opened, packed, open_up}
use Rattle.fc_tree_slots.proofs.slots.Slots.move_front.Given as given
use Rattle.fc_tree_slots.proofs.slots.Slots.move_front.Goals as goal

pub overflow_add-end : goal.overflow_add-end
overflow_add-end g c = record { fits = omega (arith, (opened c.other.inside _ c.other.invariant c.other.view_is).long, c.requires.room, g.N.fits) }

pub carry-requires-clause-source_laid : goal.carry-requires-clause-source_laid
carry-requires-clause-source_laid g c =
    let s = c.self.inside in let xs = c.args.self.now in let o = opened s xs c.self.invariant c.self.view_is in
    let b = c.requires.in_bounds in let m = g.row.N - s.len in ([], xs, m, o.is ∙ row_cut [] xs m, refl, omega (arith, b))

pub carry-requires-clause-target_laid : goal.carry-requires-clause-target_laid
carry-requires-clause-target_laid g c =
    let t = c.other.inside in let ys = c.args.other.now in let u = opened t ys c.other.invariant c.other.view_is in
    let q = t.len + c.args.n - t.len in (ys, [], g.row.N - (t.len + q), u.is ∙ open_up ys q g.row.N t.len (omega (arith, u.long)), u.long, omega arith)

pub shift_down-requires-clause-in_order : goal.shift_down-requires-clause-in_order
shift_down-requires-clause-in_order g c = omega (arith, (opened c.self.inside _ c.self.invariant c.self.view_is).long, c.requires.in_bounds)

pub shift_down-requires-clause-laid : goal.shift_down-requires-clause-laid
shift_down-requires-clause-laid g c =
    let xs = c.args.self.now in let o = opened c.self.inside xs c.self.invariant c.self.view_is in let b = c.requires.in_bounds in
    let m = g.row.N - c.self.inside.len in let n = c.args.n in let t = c.other.inside.len in let same : t + n - t ≡ n = omega arith in (
      [],
      drop n xs,
      m,
      c.carry.ensures.source [] xs m (o.is ∙ row_cut [] xs m) refl (omega (arith, b))
          ∙ (λ d. row [] (same d) (drop (same d) xs) m),
      omega arith,
      omega (arith, o.long, length-drop n xs),
    )

pub overflow_sub-self : goal.overflow_sub-self
overflow_sub-self g c = omega (arith, (opened c.self.inside _ c.self.invariant c.self.view_is).long, c.requires.in_bounds)

source : (g : given.Over) (c : goal.After-other-1 g) → IsPacked c.shift_down.new.cells (c.self.inside.len - c.args.n) g.row.N
    × (present c.shift_down.new.cells ≡ drop c.args.n c.args.self.now)
source g c =
    let s = c.self.inside in let xs = c.args.self.now in let o = opened s xs c.self.invariant c.self.view_is in let t = c.other.inside in
    let b = c.requires.in_bounds in let m = g.row.N - s.len in
    let n = c.args.n in let same : t.len + n - t.len ≡ n = omega arith in let k = s.len - n in let zs = drop n xs in
    let size : length zs ≡ k = omega (arith, o.long, length-drop n xs) in let none : 0 ≡ n - n = omega arith in
    packed c.shift_down.new.cells zs n m k g.row.N
    (c.shift_down.ensures.items [] zs m (c.carry.ensures.source [] xs m (o.is ∙ row_cut [] xs m) refl (omega (arith, b))
    ∙ (λ d. row [] (same d) (drop (same d) xs) m)) none (omega arith)
    ∙ (λ d. row (take_all k zs (omega arith) d) n (drop_all k zs (omega arith) d) m)) (omega arith) (omega (arith, o.fits, o.long, b))

target : (g : given.Over) (c : goal.After-other-1 g) → IsPacked c.carry.new.target (c.other.inside.len + c.args.n) g.row.N
    × (present c.carry.new.target ≡ c.args.other.now ++ take c.args.n c.args.self.now)
target g c =
    let s = c.self.inside in let xs = c.args.self.now in let o = opened s xs c.self.invariant c.self.view_is in let t = c.other.inside in
    let ys = c.args.other.now in let u = opened t ys c.other.invariant c.other.view_is in let b = c.requires.in_bounds in
    let m = g.row.N - s.len in
    let n = c.args.n in let q = t.len + n - t.len in let same : q ≡ n = omega arith in let w = g.row.N - (t.len + q) in
    packed c.carry.new.target (ys ++ take n xs) 0 w (t.len + n) g.row.N
    (c.carry.ensures.target [] xs ys [] m w (o.is ∙ row_cut [] xs m) refl (omega (arith, b)) (u.is ∙ open_up ys q g.row.N t.len (omega (arith, u.long))) u.long
    ∙ (λ d. row (ys ++ take (same d) xs) 0 [] w))
    (omega (arith, u.long, length-append ys (take n xs), length-take n xs)) (omega (arith, u.long))

pub invariant_of-self : goal.invariant_of-self
invariant_of-self g c = (source g c).0

pub invariant_of-other : goal.invariant_of-other
invariant_of-other g c = (target g c).0

pub returns-clause-items : goal.returns-clause-items
returns-clause-items g c = (source g c).1

pub returns-clause-other : goal.returns-clause-other
returns-clause-other g c = (target g c).1

pub returns-clause-moves : goal.returns-clause-moves
returns-clause-moves g c =
    omega (arith, (opened c.self.inside _ c.self.invariant c.self.view_is).long, c.requires.in_bounds, c.carry.ensures.moves, c.shift_down.ensures.moves)
