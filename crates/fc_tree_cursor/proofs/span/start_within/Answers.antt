use Rattle.std.proofs.Common.{◌++◌, ◌∙◌, sym, ap, append-nil}
use Rattle.fc_tree_cursor.proofs.Bounds.{from_nothing}
use Rattle.fc_tree_cursor.proofs.Sought.{left_found, start_taken, stop_taken}
use Rattle.fc_tree_cursor.proofs.Turns.{range_in, start_alone, stop_alone}
use Rattle.fc_tree_cursor.proofs.span.start_within.Goals as goal

pub returns-in-Unbounded-clause-pairs : goal.returns-in-Unbounded-clause-pairs
returns-in-Unbounded-clause-pairs g c =
    let p = c.lower_bound_edge.ensures in
    let a = c.args in
    let o = c.requires in
    let w = start_alone g.met.Q.Query.fits g.Q.Query.sought a.lo.now a.hi.now a.root.now _ c.in-Some.is o.order _ c.start_of.ensures c.in-Unbounded.is in
    start_taken a.root.now _ _ _ c.in-Some.is c.lower_bound_edge.new.gap a.back.now _ _ p.run o.start.1 (from_nothing _ _ _ _ o.start.0 p.gap) w

pub returns-in-Unbounded-lo-clause-pairs : goal.returns-in-Unbounded-lo-clause-pairs
returns-in-Unbounded-lo-clause-pairs g c =
    let p = c.upper_bound_edge.ensures in
    let a = c.args in
    let o = c.requires in
    let w = stop_alone g.met.Q.Query.fits g.Q.Query.sought a.lo.now a.hi.now a.root.now _ c.in-Some.is o.order _ c.stop_of.ensures
    c.in-Unbounded-lo.is in
    stop_taken a.root.now _ _ _ c.in-Some.is a.front.now c.upper_bound_edge.new.gap _ _ p.run o.sound o.start.0 (from_nothing _ _ _ _ o.start.1 p.gap) w

pub returns-clause-pairs : goal.returns-clause-pairs
returns-clause-pairs g c =
    let e = c.push_ends-first.ensures in
    let t = c.take_first_of.ensures in
    let m = c.args.root.now in
    let w = range_in g.met.Q.Query.fits g.Q.Query.sought c.args.lo.now c.args.hi.now m _ _ _ c.in-Some.is c.requires.order e.gaps e.front e.back in
    let left = left_found m c.take_first_of.new.front c.push_ends-first.new.back c.requires.sound t.ends in
    sym w.1 ∙ t.run ∙ ap (λ xs. c.take_first_of.result.0.now ++ xs) (left ∙ sym (append-nil _))
