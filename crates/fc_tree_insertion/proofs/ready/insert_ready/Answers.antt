use Rattle.std.proofs.Common.{◌≡◌, ◌+◌, ◌<◌, ◌^◌, length, arith}
use Rattle.fc_tree_node.specs.Node.{pairs_of}
use Rattle.fc_tree_insertion.proofs.NewPairs.{steps_few}
use Rattle.fc_tree_insertion.proofs.InsertedTrees.{gap_sound, length_in, sound_in, moves_in}
use Rattle.fc_tree_insertion.proofs.ready.insert_ready.Given as given
use Rattle.fc_tree_insertion.proofs.ready.insert_ready.Goals as goal
use Rattle.fc_tree_insertion.proofs.ready.insert_ready.Goals.{Start}

steps : (g : given.Over) (c : Start g) → length c.args.path.now ≡ c.requires.sound.0 + 1
steps g c = c.requires.levels c.requires.sound.0 c.requires.sound.2.1

pub insert-requires : goal.insert-requires
insert-requires g c =
    let long = steps g (goal.at.insert-requires g c).Start in
    let sound = gap_sound c.args.root.now c.args.path.now c.requires.sound long in
    let short = steps_few c.args.path.now c.args.root.now (omega arith) sound (omega arith) in
    record { some = omega arith; short = short; path = c.requires.path; sound = sound; new_nodes = c.requires.new_nodes }

pub returns-clause-length : goal.returns-clause-length
returns-clause-length g c =
    let long = steps g (goal.at.returns-clause-length g c).Start in
    length_in c.args.root.now c.args.path.now c.requires.sound long c.args.pair _ c.requires.path c.insert.ensures.pairs

pub returns-clause-sound : goal.returns-clause-sound
returns-clause-sound g c =
    let long = steps g (goal.at.returns-clause-sound g c).Start in
    let longer = returns-clause-length g c in
    let fits : length (pairs_of c.insert.new.root) < 2 ^ 64 = omega arith in
    sound_in c.args.root.now c.args.path.now c.requires.sound long c.insert.new.root fits c.insert.ensures.same_height c.insert.ensures.higher

pub returns-clause-moves : goal.returns-clause-moves
returns-clause-moves g c =
    let long = steps g (goal.at.returns-clause-moves g c).Start in
    moves_in c.args.root.now _ c.requires.sound long _ c.args.count.now c.insert.new.count (returns-clause-length g c) c.insert.ensures.few_moves
