use Rattle.fc_tree_node.specs.TreePlace.{before_gap_in, after_gap_in}
use Rattle.fc_map.proofs.EntryFacts.{kept_place, put_place, put_written}
use Rattle.fc_map.proofs.ReadyFacts.{put_list}
use Rattle.fc_map.proofs.map.entry.ready.ready_entry_methods.ReadyEntry+K+V+A.insert_entry.Goals as goal

pub invariant_of-result : goal.invariant_of-result
invariant_of-result g c =
    let e = c.args.self in
    let m = c.insert_ready.new.self in
    let path = c.insert_ready.new.path in
    let there = put_place m path (e.key, c.args.value) (before_gap_in e.map.now e.path) (after_gap_in e.map.now e.path) c.insert_ready.ensures.place in
    record { place = kept_place m path there.0 }

pub returns-clause-put : goal.returns-clause-put
returns-clause-put g c =
    let e = c.args.self in
    let front = before_gap_in e.map.now e.path in
    let back = after_gap_in e.map.now e.path in
    let ready = c.insert_ready.ensures in
    put_list c.insert_ready.new.self c.insert_ready.new.path (e.key, c.args.value) front back ready.sound ready.place

pub returns-clause-writes : goal.returns-clause-writes
returns-clause-writes g c = λ w.
    let e = c.args.self in
    let front = before_gap_in e.map.now e.path in
    let back = after_gap_in e.map.now e.path in
    let ready = c.insert_ready.ensures in
    put_written c.insert_ready.new.self c.insert_ready.new.path e.key c.args.value w front back ready.sound ready.place
