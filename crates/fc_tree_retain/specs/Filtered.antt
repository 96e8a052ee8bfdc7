-- A node of which some pairs were asked.
use Rattle.std.specs.Prelude.{◌≡◌, ℕ, suc, ◌+◌, ◌≤◌, Bool, List, [], ◌∷◌, ◌++◌, length, take, drop, slice_index_or, remove}
use Rattle.std.specs.Bool.{MatchBool}
use Rattle.std.specs.List.{AllByRecursion}
use Rattle.fc_tree_node.specs.declared.node.Node.{Node}
use Rattle.fc_tree_node.specs.Node.{own_pairs, children_of, child_at, pairs_of, IsInner}
use Rattle.fc_tree_node.specs.Place.{before_child, after_child}
use Rattle.fc_tree_search.specs.Written.{set_value, with_value}
use Rattle.fc_tree_retain.specs.Retained.{RetainsInTurn}

-- Asked at a pair, and given it with the value that was left where it is not to stay.
abbrev pub FiltersPair : {S K V : Type 0} → (S → K × V → S → V → Bool → Type 0) → (S → K × V → S → Type 0) → S → K × V → S → V → Bool → Type 0
FiltersPair {S} asked given s e t w b = (u : S) × asked s e u w b × MatchBool b (t ≡ u) (given u (e.0, w) t)

module _ {S K V Z : Type 0} where
  -- The node's own pair at the place was asked, and has the value that this left.
  abbrev pub IsAsked : (S → K × V → S → V → Bool → Type 0) → S → S → ℕ → Node K V Z → Node K V Z → Bool → Type 0
  IsAsked asked s t i old new b = (e : K × V) × (w : V) × asked s e t w b × (e ≡ slice_index_or (own_pairs old) i e) × (new ≡ with_value old i w)

module _ {S K V : Type 0} where
  -- The pair at i of a leaf was filtered, and j is the place of the next one.
  abbrev pub IsOwnPassed : (S → K × V → S → V → Bool → Type 0) → S → S → ℕ → ℕ → List (K × V) → List (K × V) → Type 0
  IsOwnPassed R s t i j old new = (e : K × V) × (w : V) × (b : Bool) × R s e t w b × (e ≡ slice_index_or old i e) × MatchBool b ((j ≡ i + 1) × (new ≡ set_value old i w)) ((j ≡ i) × (new ≡ remove (set_value old i w) i))

module _ {S K V Z : Type 0} where
  -- The pair after the child at i was filtered: what is left of the child and of the pair is before the child at j, which was the next one.
  -- What holds of the child holds of what is left of it.
  pub record IsPassed (L : ℕ → Node K V Z → Type 0) (R : S → K × V → S → V → Bool → Type 0) (s t : S) (i j : ℕ) (old new : Node K V Z) : Type 0 where
    pub asked : K × V
    pub stay : List (K × V)
    pub filtered : RetainsInTurn R s (asked ∷ []) t stay
    pub before : before_child new j ≡ before_child old i ++ (pairs_of (child_at old i) ++ stay)
    pub child : child_at new j ≡ child_at old (i + 1)
    pub here : after_child old i ≡ asked ∷ (pairs_of (child_at old (i + 1)) ++ after_child old (i + 1))
    pub after : after_child new j ≡ after_child old (i + 1)
    pub left : length (own_pairs new) + (i + 1) ≡ length (own_pairs old) + j
    pub inner : IsInner new
    pub few : j ≤ i + 1
    pub kept : List (Node K V Z)
    pub place : i + length kept ≡ j
    pub children : children_of new ≡ take i (children_of old) ++ (kept ++ drop (suc i) (children_of old))
    pub levels : (h : ℕ) → L h (child_at old i) → AllByRecursion (L h) kept
    pub own_kept : List (K × V)
    pub own_place : length own_kept ≡ j
    pub own : own_pairs new ≡ own_kept ++ drop (suc i) (own_pairs old)
