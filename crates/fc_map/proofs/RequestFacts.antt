-- What an insertion asks for, by the map's tree.
use Rattle.std.proofs.Common.{◌≡◌, ℕ, ◌+◌, ◌≤◌, true, List, length, ap, arith, refl, Some, None, inl, inr}
use Rattle.std.specs.declared.cmp.Ordering.{Ordering}
use Rattle.std.proofs.lemmas.Bool.{cases_lt}
use Rattle.fc_base.specs.declared.asked.Asked.{Asked}
use Rattle.fc_tree_node.proofs.DepthFacts.{deep_root}
use Rattle.fc_tree_node.proofs.MeasureFacts.{levelled_height}
use Rattle.fc_map.proofs.CountFacts.{some_pairs}
use Rattle.fc_tree_insertion.specs.Cascade.{cascade}
use Rattle.fc_tree_insertion.proofs.Cascades.{cascade_leaf, needed_few, needed_part, room_needs_none}
use Rattle.fc_map.specs.Entries.{Map, entries, IsSoundMap}
use Rattle.fc_map.specs.Kept.{blocks_in}
use Rattle.fc_map.specs.Requests.{requests_at, border_requests, HasFewRequests}
use Rattle.fc_map.specs.Full.{IsFullAt}
use Rattle.fc_map.specs.Place.{IsOpenAt, TellsRoom}

module _ {K Q V Z : Type 0} (cmp : K → Q → Ordering) (k : Q) where
  -- A leaf with room takes no node.
  pub room_asks_none : (m : Map K V Z) (path : List ℕ) → IsSoundMap m → IsOpenAt cmp k m path → TellsRoom true path m → requests_at m path ≡ 0
  room_asks_none None path sound gap room = absurd (let z = room in cc)
  room_asks_none (Some root) path sound gap room =
      let steps = gap.levels sound.0 sound.2.1 in
      let none = room_needs_none path root (omega (arith, steps)) (room.0 refl) in
      rw none refl

  -- Neither does a leaf that is not full.
  pub unfull_asks_none : (m : Map K V Z) (path : List ℕ) → IsSoundMap m → IsOpenAt cmp k m path → ¬ IsFullAt m path → requests_at m path ≡ 0
  unfull_asks_none None path sound gap unfull = absurd (unfull tt)
  unfull_asks_none (Some root) path sound gap unfull =
      let steps = gap.levels sound.0 sound.2.1 in
      elim (cases_lt 0 (cascade path root)) [
        | inl split ↦ absurd (unfull (cascade_leaf path root (omega (arith, steps)) (omega (arith, split))))
        | inr none ↦ let e = needed_part path root (omega (arith, steps, none)) in omega (arith, e, none)
      ]

  -- A level takes two requests at most, and a new root, or the first leaf, one more.
  pub few_requests : (m : Map K V Z) (path : List ℕ) → IsSoundMap m → IsOpenAt cmp k m path → (old new : Asked)
      → new.requests ≤ old.requests + requests_at m path → HasFewRequests (length (entries m) + 1) old new
  few_requests None path sound gap old new at_most = (0, omega arith, omega arith)
  few_requests (Some root) path sound gap old new at_most =
      let steps = gap.levels sound.0 sound.2.1 in
      let deep = deep_root sound.0 root sound.2 in
      let most = needed_few path root in
      (sound.0, omega (arith, deep), omega (arith, steps, most, at_most))

module _ {K V Z : Type 0} where
  -- A map without pairs has no tree.
  no_tree : (m : Map K V Z) → IsSoundMap m → length (entries m) ≡ 0 → m ≡ None
  no_tree None sound none = refl
  no_tree (Some root) sound none = absurd (let some = some_pairs sound.0 root sound.2 in omega (arith, some, none))

  -- None that could be cut.
  pub none_cut : (m : Map K V Z) → IsSoundMap m → length (entries m) ≡ 0 → border_requests m ≡ 0
  none_cut m sound none = ap border_requests (no_tree m sound none)

  -- And no block.
  pub no_blocks : (m : Map K V Z) → IsSoundMap m → length (entries m) ≡ 0 → blocks_in m ≡ 0
  no_blocks m sound none = ap blocks_in (no_tree m sound none)

  -- A cut asks for a node a level.
  pub few_cut : (m : Map K V Z) → IsSoundMap m → (old new : Asked) → new.requests ≤ old.requests + border_requests m
      → HasFewRequests (length (entries m) + 1) old new
  few_cut None sound old new at_most = (0, omega arith, omega arith)
  few_cut (Some root) sound old new at_most =
      let deep = deep_root sound.0 root sound.2 in
      let high = levelled_height sound.0 root sound.2.1 in
      (sound.0, omega (arith, deep), omega (arith, high, at_most))
