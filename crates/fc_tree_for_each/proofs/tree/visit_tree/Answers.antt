use Rattle.std.proofs.Common.{length, sym, ap, ◌∙◌}
use Rattle.fc_tree_node.specs.Node.{pairs_of}
use Rattle.fc_tree_node.specs.Tree.{entries}
use Rattle.fc_tree_for_each.specs.Visits.{CalledAtPair}
use Rattle.fc_tree_node.proofs.Bare.{same_ascending, same_length}
use Rattle.fc_tree_for_each.proofs.Ends.{map_ends, sound_stays, gaps_stay, visited_none, visited_map}
use Rattle.fc_tree_for_each.proofs.tree.visit_tree.Goals as goal

pub returns-in-None-clause-visited : goal.returns-in-None-clause-visited
returns-in-None-clause-visited g c = (c.args.f, visited_none (CalledAtPair g.F.FnMut) c.args.f c.args.root.now _ _ c.in-None.is)

pub visit-requires : goal.visit-requires
visit-requires g c =
    let e = map_ends c.args.root.now c.in-Some.root c.args.front.now c.args.back.now c.as_slice.result.now c.as_slice-in-Some.result.now c.in-Some.is
    c.as_slice.ensures.value c.as_slice-in-Some.ensures.value c.requires.sound c.requires.ends in
    record { ends = e.ends; order = e.order; callable = c.requires.callable }

pub returns-clause-ascending : goal.returns-clause-ascending
returns-clause-ascending g c cmp a =
    same_ascending c.in-Some.root c.visit.new.node c.visit.ensures.same cmp (rw (ap entries c.in-Some.is) at a)

pub returns-clause-length : goal.returns-clause-length
returns-clause-length g c =
    same_length c.in-Some.root c.visit.new.node c.visit.ensures.same ∙ ap (λ o. length (entries o)) (sym c.in-Some.is)

pub returns-clause-visited : goal.returns-clause-visited
returns-clause-visited g c =
    let e = map_ends c.args.root.now c.in-Some.root c.args.front.now c.args.back.now c.as_slice.result.now c.as_slice-in-Some.result.now c.in-Some.is
    c.as_slice.ensures.value c.as_slice-in-Some.ensures.value c.requires.sound c.requires.ends in (
      c.visit.new.f,
      visited_map (CalledAtPair g.F.FnMut) c.args.root.now c.in-Some.root (pairs_of c.visit.new.node) c.args.front.now c.args.back.now c.as_slice.result.now
          c.as_slice-in-Some.result.now c.args.f c.visit.new.f c.in-Some.is c.as_slice.ensures.value c.as_slice-in-Some.ensures.value e c.visit.ensures.visited,
    )

pub returns-clause-gaps : goal.returns-clause-gaps
returns-clause-gaps g c path gap =
    gaps_stay c.args.root.now c.in-Some.root c.visit.new.node path c.in-Some.is c.visit.ensures.same gap

pub returns-clause-sound : goal.returns-clause-sound
returns-clause-sound g c = sound_stays c.args.root.now c.in-Some.root c.visit.new.node c.in-Some.is c.visit.ensures.same c.requires.sound
