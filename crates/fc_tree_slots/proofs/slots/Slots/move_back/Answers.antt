use Rattle.std.proofs.Common.{◌≡◌, ◌+◌, ◌-◌, [], ◌++◌, length, take, drop, refl, sym, ◌∙◌, arith, length-append, length-take, length-drop, take_all}
use Rattle.std.proofs.lemmas.List.{drop_all}
use Rattle.fc_tree_slots.specs.Cells.{present, row, IsPacked}
use Rattle.fc_tree_slots.proofs.Rows.{row_cut}
use Rattle.fc_tree_slots.proofs.Laid.{opened, packed, cut_row, open_up}
use Rattle.fc_tree_slots.proofs.slots.Slots.move_back.Given as given
use Rattle.fc_tree_slots.proofs.slots.Slots.move_back.Goals as goal

pub overflow_add-end : goal.overflow_add-end
overflow_add-end g c = record { fits = omega (arith, (opened c.other.inside _ c.other.invariant c.other.view_is).long, c.requires.room, g.N.fits) }

pub overflow_sub-from : goal.overflow_sub-from
overflow_sub-from g c = omega (arith, (opened c.self.inside _ c.self.invariant c.self.view_is).long, c.requires.in_bounds)

pub shift_up-requires-clause-laid : goal.shift_up-requires-clause-laid
shift_up-requires-clause-laid g c =
    let t = c.other.inside in let ys = c.args.other.now in let u = opened t ys c.other.invariant c.other.view_is in
    let n = c.args.n in (ys, g.row.N - (t.len + n), u.is ∙ open_up ys n g.row.N t.len (omega (arith, u.long)), omega (arith, u.long))

pub carry-requires-clause-source_laid : goal.carry-requires-clause-source_laid
carry-requires-clause-source_laid g c =
    let s = c.self.inside in let xs = c.args.self.now in let o = opened s xs c.self.invariant c.self.view_is in
    let b = c.requires.in_bounds in let m = g.row.N - s.len in
    let f = s.len - c.args.n in (
      take f xs,
      drop f xs,
      m,
      o.is ∙ cut_row xs f m,
      omega (arith, o.long, length-take f xs),
      omega (arith, o.long, length-drop f xs, b),
    )

pub carry-requires-clause-target_laid : goal.carry-requires-clause-target_laid
carry-requires-clause-target_laid g c =
    let t = c.other.inside in let ys = c.args.other.now in let u = opened t ys c.other.invariant c.other.view_is in
    let n = c.args.n in let all : n ≡ n - 0 = omega arith in let w = g.row.N - (t.len + n) in (
      [],
      ys,
      w,
      c.shift_up.ensures.items ys w (u.is ∙ open_up ys n g.row.N t.len (omega (arith, u.long))) (omega (arith, u.long))
          ∙ (λ d. row [] (all d) ys w),
      refl,
      omega arith,
    )

source : (g : given.Over) (c : goal.After-other-1 g) → IsPacked c.carry.new.source (c.self.inside.len - c.args.n) g.row.N
    × (present c.carry.new.source ≡ take (length c.args.self.now - c.args.n) c.args.self.now)
source g c =
    let s = c.self.inside in let xs = c.args.self.now in let o = opened s xs c.self.invariant c.self.view_is in
    let b = c.requires.in_bounds in let m = g.row.N - s.len in
    let n = c.args.n in let all : n ≡ n - 0 = omega arith in let f = s.len - n in
    let far : length (take f xs) ≡ f = omega (arith, o.long, length-take f xs) in
    let size : length (drop f xs) ≡ n = omega (arith, o.long, length-drop f xs, b) in let same : f ≡ length xs - n = omega (arith, o.long) in
    let got = packed c.carry.new.source (take f xs) (n - 0) m f g.row.N
    (c.carry.ensures.source (take f xs) (drop f xs) m (o.is ∙ cut_row xs f m) far (omega arith)
    ∙ (λ d. row (take f xs) (n - 0) (drop_all (n - 0) (drop f xs) (omega arith) d) m)) (sym far) (omega (arith, o.long, o.fits, b)) in
    (got.0, got.1 ∙ (λ d. take (same d) xs))

target : (g : given.Over) (c : goal.After-other-1 g) → IsPacked c.carry.new.target (c.other.inside.len + c.args.n) g.row.N
    × (present c.carry.new.target ≡ drop (length c.args.self.now - c.args.n) c.args.self.now ++ c.args.other.now)
target g c =
    let s = c.self.inside in let xs = c.args.self.now in let o = opened s xs c.self.invariant c.self.view_is in let t = c.other.inside in
    let ys = c.args.other.now in let u = opened t ys c.other.invariant c.other.view_is in let b = c.requires.in_bounds in
    let m = g.row.N - s.len in
    let n = c.args.n in let all : n ≡ n - 0 = omega arith in let f = s.len - n in let w = g.row.N - (t.len + n) in
    let far : length (take f xs) ≡ f = omega (arith, o.long, length-take f xs) in
    let size : length (drop f xs) ≡ n = omega (arith, o.long, length-drop f xs, b) in let same : f ≡ length xs - n = omega (arith, o.long) in
    let got = packed c.carry.new.target (drop f xs ++ ys) 0 w (t.len + n) g.row.N
    (c.carry.ensures.target (take f xs) (drop f xs) [] ys m w (o.is ∙ cut_row xs f m) far (omega arith)
    (c.shift_up.ensures.items ys w (u.is ∙ open_up ys n g.row.N t.len (omega (arith, u.long))) (omega (arith, u.long)) ∙ (λ d. row [] (all d) ys w)) refl
    ∙ (λ d. row (take_all (n - 0) (drop f xs) (omega arith) d) 0 ys w) ∙ sym (row_cut (drop f xs) ys w)) (omega (arith, u.long, length-append (drop f xs) ys))
    (omega (arith, u.long)) in
    (got.0, got.1 ∙ (λ d. drop (same d) xs ++ ys))

pub invariant_of-self : goal.invariant_of-self
invariant_of-self g c = (source g c).0

pub invariant_of-other : goal.invariant_of-other
invariant_of-other g c = (target g c).0

pub returns-clause-items : goal.returns-clause-items
returns-clause-items g c = (source g c).1

pub returns-clause-other : goal.returns-clause-other
returns-clause-other g c = (target g c).1

pub returns-clause-moves : goal.returns-clause-moves
returns-clause-moves g c =
    omega (arith, (opened c.other.inside _ c.other.invariant c.other.view_is).long, c.requires.in_bounds, c.carry.ensures.moves, c.shift_up.ensures.moves)
