use Rattle.std.proofs.Common.{◌≡◌, arith, length, refl, subst, ap}
use Rattle.fc_tree_node.specs.Node.{pairs_of}
use Rattle.fc_tree_node.proofs.Pairs.{leaf_pairs}
use Rattle.fc_tree_for_each.specs.Visits.{CalledAtPair, IsVisitedAt}
use Rattle.fc_tree_node.proofs.Bare.{same_size}
use Rattle.fc_tree_for_each.proofs.Turns.{at_first}
use Rattle.fc_tree_for_each.proofs.Walking.{leaf_next}
use Rattle.fc_tree_for_each.proofs.visit.visit_leaf.Goals as goal

pub loop-i-init : goal.loop-i-init
loop-i-init g c =
    let p = ap length (leaf_pairs c.args.node.now c.requires.leaf.1) in
    let o = c.requires.order in
    record {
      callable = c.requires.callable;
      le = o.0;
      same = refl;
      visited = at_first (CalledAtPair g.F.FnMut) c.args.f.now c.args.start (pairs_of c.args.node.now) (omega arith);
    }

pub loop-i-preserved : goal.loop-i-preserved
loop-i-preserved g c =
    let at = c.loop-i in
    let v = c.visit_own.ensures.visited in
    let s = leaf_next (CalledAtPair g.F.FnMut) c.args.node.now at.node at.i v.0 v.1 c.requires.leaf at.invariant.same (omega arith)
    at.invariant.visited v.2 v.3 in
    record { callable = c.visit_own.ensures.callable; le = omega arith; same = rw v.4 s.0; visited = rw v.4 s.1 }

pub returns-clause-visited : goal.returns-clause-visited
returns-clause-visited g c =
    let at = c.loop-i in
    let e : at.i ≡ c.args.end = omega arith in
    subst (λ j. IsVisitedAt (CalledAtPair g.F.FnMut) c.args.f.now at.f c.args.start j (pairs_of c.args.node.now) (pairs_of at.node)) e at.invariant.visited

pub returns-clause-same : goal.returns-clause-same
returns-clause-same g c = c.loop-i.invariant.same

pub visit_own-requires-clause-inside : goal.visit_own-requires-clause-inside
visit_own-requires-clause-inside g c =
    let s = same_size c.args.node.now c.loop-i.node c.loop-i.invariant.same in
    omega arith
