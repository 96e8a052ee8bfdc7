-- How many pairs a tree of so many levels has at the least.
use Rattle.std.proofs.Common.{◌≡◌, ℕ, zero, suc, ◌+◌, ◌*◌, ◌^◌, ◌<◌, ◌≤◌, List, [], ◌∷◌, length, map, ap, arith, length-append, ◌⊎◌, inl, inr, lit<, le_trans}
use Rattle.std.proofs.Common.{pow-suc}
use Rattle.std.specs.List.{AllByRecursion}
use Rattle.std.proofs.lemmas.List.{length-map}
use Rattle.std.proofs.lemmas.Bool.{cases_lt}
use Rattle.std.proofs.Math.Nat.{mul-le-mul_right, pow-le-pow_right}
use Rattle.fc_base.specs.Sizes.{capacity, min_len, least_children, most_levels, most_height}
use Rattle.fc_base.proofs.Sizes.{levels_enough}
use Rattle.fc_tree_node.specs.Weave.{weave, after_list}
use Rattle.fc_tree_node.specs.declared.node.Node.{Node}
use Rattle.fc_tree_node.specs.Node.{own_pairs, children_of, pairs_of, IsLevelled, IsSoundRoot}
use Rattle.fc_tree_node.specs.Depth.{IsDeep}
use Rattle.fc_tree_node.proofs.Pairs.{pairs_is, leaf_pairs, IsBelow}
use Rattle.fc_tree_node.proofs.Lists.{all_each}

-- what so many nodes below, or twice as many, come to a level higher
level_more : (b h k m : ℕ) → b ≤ k → k * b ^ h ≤ m → b ^ suc h ≤ m
level_more b h k m le s = let t = mul-le-mul_right (b ^ h) le in omega (arith, pow-suc b h)

two_more : (b h k m : ℕ) → 2 * b ≤ k → k * b ^ h ≤ m → 2 * b ^ suc h ≤ m
two_more b h k m le s = let t = mul-le-mul_right (b ^ h) le in omega (arith, pow-suc b h)

module _ {X : Type 0} (b : ℕ) where
  abbrev pub IsLong : List X → Type 0
  IsLong c = b ≤ length c + 1

  long_after : (ps : List X) (cs : List (List X)) → AllByRecursion IsLong cs → length cs ≡ length ps → length cs * b ≤ length (after_list ps cs)
  long_after [] [] a e = omega arith
  long_after [] (c ∷ cs) a e = absurd (omega arith)
  long_after (p ∷ ps) [] a e = absurd (omega arith)
  long_after (p ∷ ps) (c ∷ cs) a e = let i = long_after ps cs a.1 (omega arith) in omega (arith, a.0, length-append c (after_list ps cs))

  -- lists and items in turn, as long as that many lists with an item all_each
  long_weave : (cs : List (List X)) (ps : List X) → AllByRecursion IsLong cs → length cs ≡ length ps + 1 → length cs * b ≤ length (weave cs ps) + 1
  long_weave [] ps a e = omega arith
  long_weave (c ∷ cs) ps a e = let i = long_after ps cs a.1 (omega arith) in omega (arith, a.0, length-append c (after_list ps cs))

module _ {K V Z : Type 0} where
  -- a node whose children have at least so many pairs
  many_in : (n : Node K V Z) (b : ℕ) → length (children_of n) ≡ length (own_pairs n) + 1 → AllByRecursion (λ c. b ≤ length (pairs_of c) + 1) (children_of n)
      → length (children_of n) * b ≤ length (pairs_of n) + 1
  many_in n b e a =
      let m = length-map (children_of n) pairs_of in
      let w = long_weave b (map pairs_of (children_of n)) (own_pairs n) (lists (children_of n) a) (omega arith) in
      let f : length (map pairs_of (children_of n)) * b ≡ length (children_of n) * b = ap (λ j. j * b) m in
      let p : length (pairs_of n) ≡ length (weave (map pairs_of (children_of n)) (own_pairs n)) = ap length (pairs_is n) in
      omega arith
    where
      lists : (cs : List (Node K V Z)) → AllByRecursion (λ c. b ≤ length (pairs_of c) + 1) cs → AllByRecursion (IsLong b) (map pairs_of cs)
      lists [] a = tt
      lists (c ∷ cs) a = (a.0, lists cs a.1)

  -- a node below the root
  many_below : (h : ℕ) (n : Node K V Z) → min_len ≤ length (own_pairs n) → IsLevelled h n → least_children ^ suc h ≤ length (pairs_of n) + 1
  many_below zero n m l = let e : length (pairs_of n) ≡ length (own_pairs n) = ap length (leaf_pairs n l.1) in omega arith
  many_below (suc h) n m l =
      let s = many_in n (least_children ^ suc h) l.1
      (all_each (IsBelow h) (λ c. least_children ^ suc h ≤ length (pairs_of c) + 1) (λ c p. many_below h c p.0 p.1) (children_of n) l.2) in
      let least : least_children ≤ length (children_of n) = omega arith in
      level_more least_children (suc h) _ _ least s

  all_below : (h : ℕ) (n : Node K V Z) → IsLevelled (suc h) n → AllByRecursion (λ c. least_children ^ suc h ≤ length (pairs_of c) + 1) (children_of n)
  all_below h n l = all_each (IsBelow h) (λ c. least_children ^ suc h ≤ length (pairs_of c) + 1) (λ c p. many_below h c p.0 p.1) (children_of n) l.2

  -- a sound root
  pub deep_root : (h : ℕ) (n : Node K V Z) → IsSoundRoot h n → IsDeep h (length (pairs_of n))
  deep_root zero n s = let e : length (pairs_of n) ≡ length (own_pairs n) = ap length (leaf_pairs n s.1.1) in omega arith
  deep_root (suc h) n s =
      let l = s.1 in
      let b = many_in n (least_children ^ suc h) l.1 (all_below h n l) in
      let two : 2 ≤ length (children_of n) = omega arith in
      le_trans (mul-le-mul_right (least_children ^ suc h) two) b

  -- a full root makes a tree of one level more where it is split
  pub deep_full : (h : ℕ) (n : Node K V Z) → length (own_pairs n) ≡ capacity → IsLevelled h n → IsDeep (suc h) (length (pairs_of n))
  deep_full zero n e l = let m : length (pairs_of n) ≡ length (own_pairs n) = ap length (leaf_pairs n l.1) in omega arith
  deep_full (suc h) n e l =
      let b = many_in n (least_children ^ suc h) l.1 (all_below h n l) in
      let all : 2 * least_children ≤ length (children_of n) = omega arith in
      two_more least_children (suc h) _ _ all b

-- so that a tree whose pairs are counted in 64 bits is not too high
pub few_levels : (h n : ℕ) → IsDeep h n → n < 2 ^ 64 → h ≤ most_height
few_levels h n d s = within (cases_lt most_height h)
  where
    within : (most_height < h) ⊎ (h ≤ most_height) → h ≤ most_height
    within (inr le) = le
    within (inl more) =
        let le : most_levels ≤ h = omega arith in
        let big : least_children ^ most_levels ≤ least_children ^ h = pow-le-pow_right (lit< tt) le in
        absurd (omega (arith, levels_enough))
