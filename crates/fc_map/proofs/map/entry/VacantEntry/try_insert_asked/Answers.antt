use Rattle.std.proofs.Common.{◌≡◌, ◌∙◌, Some, arith, ap, refl, sym}
use Rattle.std.specs.Option.{option_map}
use Rattle.std.proofs.lemmas.Bool.{false≢true}
use Rattle.fc_tree_node.specs.TreePlace.{before_gap_in, after_gap_in}
use Rattle.fc_map.proofs.CountFacts.{only_moved}
use Rattle.fc_map.proofs.EntryFacts.{put_place, put_written}
use Rattle.fc_map.proofs.map.entry.VacantEntry.try_insert_asked.Goals as goal

pub returns-in-Ok : goal.returns-in-Ok
returns-in-Ok g c =
    let e = c.args.self in
    let front = before_gap_in e.map.now e.path in
    let back = after_gap_in e.map.now e.path in
    let m = c.insert_at.new.self in
    let put = c.in-Ok.ensures.place in
    let there = put_place m c.insert_at.new.path (e.key, c.args.value) front back put in
    let lent : Some c.value_mut.result.now ≡ Some c.args.value = sym c.value_mut.ensures.value ∙ ap (option_map (λ p. p.1)) there.1 in (
      (refl, (λ w _. (put_written m c.insert_at.new.path e.key c.args.value w front back c.value_mut.ensures.sound put, c.value_mut.ensures.kept w)), tt),
      record {
        writes_back = tt;
        value = cc;
        back = tt;
        error = tt;
        only_full = tt;
        full = c.in-Ok.ensures.full;
        comparisons = c.in-Ok.ensures.comparisons;
        no_move = tt;
        moved = c.in-Ok.ensures.moved;
        bounded = only_moved _ c.args.count.now c.insert_at.new.count (omega arith) c.in-Ok.ensures.comparisons
            (rw c.in-Ok.ensures.length at c.in-Ok.ensures.moves);
        requests = c.in-Ok.ensures.requests;
        at_most = c.insert_at.ensures.at_most;
        room = c.insert_at.ensures.room;
        few = c.insert_at.ensures.few;
      },
    )

pub returns-in-Err : goal.returns-in-Err
returns-in-Err g c = (
  (refl, (λ w e. absurd (false≢true e)), c.in-Err.ensures.unchanged),
  record {
    writes_back = tt;
    value = tt;
    back = (ap Some (sym c.in-Err.ensures.back.0), c.in-Err.ensures.back.1);
    error = c.in-Err.ensures.error;
    only_full = c.in-Err.ensures.only_full;
    full = λ _. refl;
    comparisons = c.in-Err.ensures.comparisons;
    no_move = c.in-Err.ensures.no_move;
    moved = tt;
    bounded = (
      λ _. (c.in-Err.ensures.comparisons, c.in-Err.ensures.no_move),
      λ _. (0, omega arith, rw c.in-Err.ensures.comparisons (omega arith), rw c.in-Err.ensures.no_move (omega arith)),
    );
    requests = tt;
    at_most = c.insert_at.ensures.at_most;
    room = c.insert_at.ensures.room;
    few = c.insert_at.ensures.few;
  },
)
