-- A sound tree in which a pair was put in the place of another.
use Rattle.std.proofs.Common.{◌≡◌, ℕ, ◌+◌, ◌<◌, List, ◌∷◌, ◌++◌, length, Some, sym, ap, ◌∙◌, arith, length-append}
use Rattle.fc_base.specs.declared.count.Count.{Count}
use Rattle.fc_tree_node.specs.declared.node.Node.{Node}
use Rattle.fc_tree_node.specs.Depth.{HasFewMoves}
use Rattle.fc_tree_node.specs.Node.{own_pairs, pairs_of, IsLevelled}
use Rattle.fc_tree_node.specs.Place.{IsPlace, place_pair, before_pair, after_pair}
use Rattle.fc_tree_node.specs.Tree.{IsSoundMap}
use Rattle.fc_tree_node.proofs.DepthFacts.{deep_root}
use Rattle.fc_tree_node.proofs.Gaps.{place_pairs}

module _ {K V Z : Type 0} where
  -- What the exchange leaves, and what it costs.
  pub record IsExchanged (root new : Node K V Z) (path : List ℕ) (pair old : K × V) (start stop : Count) : Type 0 where
    pub old_is : place_pair path root ≡ Some old
    pub pairs_is : pairs_of new ≡ before_pair path root ++ pair ∷ after_pair path root
    pub length_is : length (pairs_of new) ≡ length (pairs_of root)
    pub some : 0 < length (pairs_of new)
    pub sound : IsSoundMap (Some new)
    pub moves : HasFewMoves (length (pairs_of new)) start stop

  -- The path is read as a slice.
  pub exchanged : (root new : Node K V Z) (path slice : List ℕ) (pair old : K × V) (start stop : Count) → slice ≡ path → IsSoundMap (Some root)
      → IsPlace path root → place_pair slice root ≡ Some old → pairs_of new ≡ before_pair slice root ++ pair ∷ after_pair slice root
      → length (own_pairs new) ≡ length (own_pairs root) → ((h : ℕ) → IsLevelled h root → IsLevelled h new)
      → stop.moves ≡ start.moves + 2 → IsExchanged root new path pair old start stop
  exchanged root new path slice pair old start stop way sound place o p size levels two =
      let was : place_pair path root ≡ Some old = ap (λ q. place_pair q root) (sym way) ∙ o in
      let parts : pairs_of new ≡ before_pair path root ++ pair ∷ after_pair path root = p ∙ ap (λ q. before_pair q root ++ pair ∷ after_pair q root) way in
      let cut = place_pairs path sound.0 root sound.2.1 place in
      let before = ap length cut.parts ∙ length-append (before_pair path root) (cut.pair ∷ after_pair path root) in
      let after = ap length parts ∙ length-append (before_pair path root) (pair ∷ after_pair path root) in
      let some = sound.2.0 in
      let stays : IsSoundMap (Some new) = (sound.0, sound.1, (omega arith, levels sound.0 sound.2.1)) in
      record {
        old_is = was;
        pairs_is = parts;
        length_is = omega (arith, before, after);
        some = omega (arith, after);
        sound = stays;
        moves = (sound.0, deep_root sound.0 new stays.2, omega arith);
      }
