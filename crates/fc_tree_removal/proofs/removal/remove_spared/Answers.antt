use Rattle.std.proofs.Common.{◌≡◌, ◌+◌, ◌-◌, length, get_or, take, ap, ◌∙◌, arith}
use Rattle.std.specs.List.{remove}
use Rattle.fc_tree_node.specs.Node.{own_pairs}
use Rattle.fc_tree_node.specs.Place.{node_at}
use Rattle.fc_tree_node.proofs.Lists.{length_take}
use Rattle.fc_tree_removal.proofs.Spared.{spared_at, place_some, pair_out, pairs_out, shrunk_out, some_out, lost_out, fits_out, blocks_out}
use Rattle.fc_tree_removal.proofs.removal.remove_spared.Goals as goal

pub pairs_mut-requires : goal.pairs_mut-requires
pairs_mut-requires g c =
    let path = c.args.path.now in
    let some = place_some path c.args.node.now c.requires.place in
    let s = spared_at path (length path - 1) c.args.node.now (omega arith) c.requires.place c.requires.spared in
    let t = length_take (length path - 1) path (omega arith) in
    record { way = s.descent; bounded = omega (arith, t, c.requires.short) }

pub remove-requires : goal.remove-requires
remove-requires g c =
    let path = c.args.path.now in
    let some = place_some path c.args.node.now c.requires.place in
    let s = spared_at path (length path - 1) c.args.node.now (omega arith) c.requires.place c.requires.spared in
    let same = ap length c.pairs_mut.ensures.value in
    (omega (arith, g.met.A.Handle.small, g.met.A.Handle.plain), omega (arith, s.place, same))

pub returns : goal.returns
returns g c =
    let path = c.args.path.now in
    let n = c.args.node.now in
    let last = length path - 1 in
    let some = place_some path n c.requires.place in
    let e : last + 1 ≡ length path = omega arith in
    let s = spared_at path last n e c.requires.place c.requires.spared in
    let lent = c.pairs_mut.ensures.value in
    let ps = c.remove.new.self in
    let is : ps ≡ remove (own_pairs (node_at (take last path) n)) (get_or path last 0) = c.remove.ensures.items
    ∙ ap (λ qs. remove qs (get_or path last 0)) lent in
    let same = ap length lent in
    let h = c.requires.sound.0 in
    let sound = c.requires.sound.1 in
    let fits = fits_out path last n ps e s is h sound.1 in
    let moves = c.remove.ensures.moves in
    record {
      pair = pair_out path last n ps e s is c.remove.result (c.remove.ensures.value ∙ ap (λ qs. get_or qs (get_or path last 0) c.remove.result) lent);
      pairs = pairs_out path last n ps e s is h sound.1;
      levels = λ k o. shrunk_out path last n ps e s is k o.1;
      some = some_out path last n ps e s is sound.0;
      moves = omega (arith, moves, same, fits);
      moved = omega (arith, moves, same, s.place);
      fewest = λ k o lost. let z = lost_out path last n ps e s is k o.1 lost in omega (arith, moves, same, s.place);
      comparisons = c.remove.ensures.comparisons;
      blocks = let b = blocks_out path last n ps e s is in omega (arith, b);
    }
