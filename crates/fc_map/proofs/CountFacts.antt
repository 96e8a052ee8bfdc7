-- Costs by the height of a map's tree.
use Rattle.std.proofs.Common.{◌≡◌, ℕ, ◌+◌, ◌*◌, ◌<◌, ◌≤◌, length, arith, lit<, Some, zero, suc, refl, ◌⊎◌, inl, inr}
use Rattle.std.proofs.Math.Nat.{one-le-pow}
use Rattle.std.proofs.lemmas.Bool.{cases_lt}
use Rattle.std.specs.declared.cmp.Ordering.{Ordering}
use Rattle.fc_base.specs.Sizes.{least_children, level_comparisons, level_moves}
use Rattle.fc_base.specs.declared.count.Count.{Count}
use Rattle.fc_tree_node.specs.declared.node.Node.{Node}
use Rattle.fc_tree_node.specs.Node.{pairs_of, IsSoundRoot}
use Rattle.fc_tree_node.specs.Depth.{IsDeep, HasFewMoves}
use Rattle.fc_tree_search.specs.Passed.{passed}
use Rattle.fc_tree_node.proofs.DepthFacts.{deep_root}
use Rattle.fc_tree_search.proofs.PassedFacts.{passed_bound}
use Rattle.fc_map.specs.Counts.{IsBounded}
use Rattle.fc_map.specs.Entries.{Map, entries, IsSoundMap}

module _ {K V Z : Type 0} where
  -- A tree has a pair.
  pub some_pairs : (h : ℕ) (root : Node K V Z) → IsSoundRoot h root → 0 < length (pairs_of root)
  some_pairs h root s = let deep = deep_root h root s in let one = one-le-pow h least_children (lit< tt) in omega arith

  -- A look-up counts what its search passes.
  pub looked_up : {Q : Type 0} (cmp : K → Q → Ordering) (k : Q) (m : Map K V Z) (root : Node K V Z) (old new : Count) → m ≡ Some root → IsSoundMap m
      → new.comparisons ≡ old.comparisons + passed cmp k root → new.moves ≡ old.moves → IsBounded (length (entries m)) old new
  looked_up cmp k m root old new is sound c e =
      let s = rw is at sound in
      let some = some_pairs s.0 root s.2 in
      let deep = deep_root s.0 root s.2 in
      let few = passed_bound cmp k s.0 root s.2.1 in
      rw is ((λ h. absurd (omega arith)), λ h. (s.0, deep, omega arith, omega arith))

deeper : (h n m : ℕ) → IsDeep h n → n ≤ m → IsDeep h m
deeper h n m d le = omega arith

-- A search among n pairs and then moves among n' pairs, no fewer.
pub moved_after : (n n' : ℕ) (old mid new : Count) → IsBounded n old mid → mid.moves ≡ old.moves → new.comparisons ≡ mid.comparisons → HasFewMoves n' mid new
    → n ≤ n' → 0 < n' → IsBounded n' old new
moved_after n n' old mid new b still same m le some = ((λ z. absurd (omega arith)), λ _. go (dec n))
  where
    dec : (n : ℕ) → (n ≡ 0) ⊎ (0 < n)
    dec zero = inl refl
    dec (suc n) = inr (omega arith)

    highest : (h₁ h₂ : ℕ) → (h₁ < h₂) ⊎ (h₂ ≤ h₁) → IsDeep h₁ n' → IsDeep h₂ n' → mid.comparisons ≤ old.comparisons + level_comparisons * (h₁ + 1)
        → new.moves ≤ mid.moves + level_moves * (h₂ + 1) → (h : ℕ) × IsDeep h n' × (new.comparisons ≤ old.comparisons + level_comparisons * (h + 1))
        × (new.moves ≤ old.moves + level_moves * (h + 1))
    highest h₁ h₂ (inl le) d₁ d₂ c v = (h₂, d₂, omega arith, omega arith)
    highest h₁ h₂ (inr le) d₁ d₂ c v = (h₁, d₁, omega arith, omega arith)

    go : ((n ≡ 0) ⊎ (0 < n)) → (h : ℕ) × IsDeep h n' × (new.comparisons ≤ old.comparisons + level_comparisons * (h + 1))
        × (new.moves ≤ old.moves + level_moves * (h + 1))
    go (inl z) = let e = b.0 z in (m.0, m.1, omega (arith, e.0), omega (arith, m.2))
    go (inr p) = let e = b.1 p in highest e.0 m.0 (cases_lt e.0 m.0) (deeper e.0 n n' e.1 le) m.1 e.2 m.2

-- Moves alone, among n pairs.
pub only_moved : (n : ℕ) (old new : Count) → 0 < n → new.comparisons ≡ old.comparisons → HasFewMoves n old new → IsBounded n old new
only_moved n old new some same m = ((λ z. absurd (omega arith)), λ _. (m.0, m.1, omega arith, m.2))
