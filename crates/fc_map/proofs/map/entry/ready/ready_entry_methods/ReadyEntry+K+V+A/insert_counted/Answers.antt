use Rattle.std.proofs.Common.{◌≡◌, ◌∙◌, Some, ap, arith, refl, sym}
use Rattle.std.specs.Option.{option_map}
use Rattle.fc_tree_node.specs.TreePlace.{before_gap_in, after_gap_in}
use Rattle.fc_map.proofs.CountFacts.{only_moved}
use Rattle.fc_map.proofs.EntryFacts.{put_place, put_written}
use Rattle.fc_map.proofs.map.entry.ready.ready_entry_methods.ReadyEntry+K+V+A.insert_counted.Goals as goal

pub returns : goal.returns
returns g c =
    let e = c.args.self in
    let front = before_gap_in e.map.now e.path in
    let back = after_gap_in e.map.now e.path in
    let m = c.insert_ready.new.self in
    let ready = c.insert_ready.ensures in
    let there = put_place m c.insert_ready.new.path (e.key, c.args.value) front back ready.place in
    let written = put_written m c.insert_ready.new.path e.key c.args.value in
    let lent : Some c.value_mut.result.now ≡ Some c.args.value = sym c.value_mut.ensures.value ∙ ap (option_map (λ p. p.1)) there.1 in (
      (refl, (λ w _. (written w front back c.value_mut.ensures.sound ready.place, c.value_mut.ensures.kept w)), tt),
      record {
        writes_back = tt;
        value = cc;
        comparisons = ready.comparisons;
        moved = ready.moved;
        bounded = only_moved _ c.args.count.now c.insert_ready.new.count (omega arith) ready.comparisons (rw ready.length at ready.moves);
      },
    )
