-- How long a cascade is, and how many nodes it needs.
use Rattle.std.proofs.Common.{◌≡◌, ℕ, zero, suc, ◌+◌, ◌*◌, ◌-◌, ◌<◌, ◌≤◌, true, false, ◌&&◌, ◌==◌, ◌⊎◌, inl, inr, List, [], ◌∷◌, length, get_or, refl}
use Rattle.std.proofs.Common.{sym, ap, ◌∙◌, subst, arith, Option, Some, None, MatchOption}
use Rattle.std.specs.Prelude.{slice_range, if◌then◌else◌}
use Rattle.std.proofs.lemmas.Bool.{cases_lt, eq-eqb, ne_eqb}
use Rattle.std.proofs.lemmas.Bool.Decides.{eqb_tells}
use Rattle.fc_base.specs.Sizes.{capacity, most_split_moves}
use Rattle.fc_tree_node.specs.declared.node.Node.{Node}
use Rattle.fc_tree_node.specs.Node.{own_pairs, child_at}
use Rattle.fc_tree_insertion.specs.Cascade.{leaf_at, all_full, cascade, nodes_needed, insertion_moves, IsSpareLeaf, spare_count}
use Rattle.fc_tree_insertion.specs.Insertion.{Split}
use Rattle.fc_tree_node.proofs.PathSteps.{IsStep}

module _ {K V Z : Type 0} where
  pub cascade_whole : (p : List ℕ) (n : Node K V Z) → all_full p n ≡ true → cascade p n ≡ length p
  cascade_whole [] n e = refl
  cascade_whole (i ∷ p) n e = rw e refl

  -- each node of the path is full, or one is not
  pub by_fullness : (p : List ℕ) (n : Node K V Z) (P : Type 0) → (all_full p n ≡ true → P) → (all_full p n ≡ false → P) → P
  by_fullness p n P t f = elim (all_full p n) as (λ b. all_full p n ≡ b → P) [ true ↦ t | false ↦ f ] refl

  pub cascade_part : (p : List ℕ) (n : Node K V Z) → all_full p n ≡ false → cascade p n < length p
  cascade_part [] n e = absurd (cc)
  cascade_part (i ∷ p) n e = rw e (by_fullness p (child_at n i) (cascade p (child_at n i) < suc (length p))
      (λ f. let w = cascade_whole p (child_at n i) f in omega arith)
      (λ f. let w = cascade_part p (child_at n i) f in omega arith))

  pub whole_full : (p : List ℕ) (n : Node K V Z) → length p ≤ cascade p n → all_full p n ≡ true
  whole_full p n h = by_fullness p n (all_full p n ≡ true) (λ f. f) (λ f. absurd (let w = cascade_part p n f in omega arith))

  part_full : (p : List ℕ) (n : Node K V Z) → cascade p n < length p → all_full p n ≡ false
  part_full p n h = by_fullness p n (all_full p n ≡ false) (λ f. absurd (let w = cascade_whole p n f in omega arith)) (λ f. f)

  cons_part : (i : ℕ) (p : List ℕ) (n : Node K V Z) → cascade p (child_at n i) < length p → cascade (i ∷ p) n ≡ cascade p (child_at n i)
  cons_part i p n h =
      rw (part_full p (child_at n i) h) (elim (length (own_pairs n) == capacity) as
      (λ b. (if b && false then suc (length p) else cascade p (child_at n i)) ≡ cascade p (child_at n i)) [ true ↦ refl | false ↦ refl ])

  cons_room : (i : ℕ) (p : List ℕ) (n : Node K V Z) → length (own_pairs n) < capacity → cascade (i ∷ p) n ≡ cascade p (child_at n i)
  cons_room i p n h = let e : (length (own_pairs n) == capacity) ≡ false = ne_eqb _ _ (λ q. omega arith) in rw e refl

  cons_full : (i : ℕ) (p : List ℕ) (n : Node K V Z) → length (own_pairs n) ≡ capacity → length p ≤ cascade p (child_at n i) → cascade (i ∷ p) n ≡ suc (length p)
  cons_full i p n q h =
      let e : (length (own_pairs n) == capacity) ≡ true = eq-eqb _ _ q in
      rw (e, whole_full p (child_at n i) h) refl

  -- the first node is full where all are
  pub first_full : (p : List ℕ) (n : Node K V Z) → 0 < length p → all_full p n ≡ true → length (own_pairs n) ≡ capacity
  first_full [] n some is = absurd (omega arith)
  first_full (i ∷ p) n some is = elim (eqb_tells (length (own_pairs n)) capacity) [ inl w ↦ w.1 | inr w ↦ absurd (let z = rw w.0 at is in cc) ]

  pub cascade_most : (p : List ℕ) (n : Node K V Z) → cascade p n ≤ length p
  cascade_most p n = by_fullness p n (cascade p n ≤ length p) (λ f. let w = cascade_whole p n f in omega arith) (λ f. let w = cascade_part p n f in omega arith)

  cons_more : (i : ℕ) (p : List ℕ) (n : Node K V Z) → cascade p (child_at n i) ≤ cascade (i ∷ p) n
  cons_more i p n =
      let w = cascade_most p (child_at n i) in
      elim (all_full (i ∷ p) n) as (λ b. cascade p (child_at n i) ≤ (if b then suc (length p) else cascade p (child_at n i)))
      [ true ↦ omega arith | false ↦ omega arith ]

  -- a leaf
  pub leaf_full : (p : List ℕ) (n : Node K V Z) → p ≡ get_or p 0 0 ∷ [] → length (own_pairs n) ≡ capacity → cascade p n ≡ 1
  leaf_full p n e q = subst (λ (r : List ℕ). cascade r n ≡ 1) (sym e) (cons_full (get_or p 0 0) [] n q (omega arith))

  pub leaf_room : (p : List ℕ) (n : Node K V Z) → p ≡ get_or p 0 0 ∷ [] → length (own_pairs n) < capacity → cascade p n ≡ 0
  leaf_room p n e q = subst (λ (r : List ℕ). cascade r n ≡ 0) (sym e) (cons_room (get_or p 0 0) [] n q)

  -- the leaf of a path is full where anything is
  pub cascade_leaf : (p : List ℕ) (n : Node K V Z) → 0 < length p → 1 ≤ cascade p n → length (own_pairs (leaf_at p n)) ≡ capacity
  cascade_leaf [] n l h = absurd (omega arith)
  cascade_leaf (i ∷ []) n l h = elim (eqb_tells (length (own_pairs n)) capacity) [ inl w ↦ w.1 | inr w ↦ absurd (let z = rw w.0 at h in omega arith) ]
  cascade_leaf (i ∷ j ∷ p) n l h = cascade_leaf (j ∷ p) (child_at n i) (omega arith) (by_fullness (j ∷ p) (child_at n i) (1 ≤ cascade (j ∷ p) (child_at n i))
      (λ f. let w = cascade_whole (j ∷ p) (child_at n i) f in omega arith)
      (λ f. let w = cascade_part (j ∷ p) (child_at n i) f in let e = cons_part i (j ∷ p) n w in omega arith))

  pub needed_whole : (p : List ℕ) (n : Node K V Z) → length p ≤ cascade p n → nodes_needed p n ≡ cascade p n + 1
  needed_whole p n h = rw (whole_full p n h) refl

  pub needed_part : (p : List ℕ) (n : Node K V Z) → cascade p n < length p → nodes_needed p n ≡ cascade p n
  needed_part p n h = rw (part_full p n h) refl

  -- a leaf with room is not split, and nothing above it
  pub room_needs_none : (p : List ℕ) (n : Node K V Z) → 0 < length p → length (own_pairs (leaf_at p n)) < capacity → nodes_needed p n ≡ 0
  room_needs_none p n some room = within (cases_lt 0 (cascade p n))
    where
      within : (0 < cascade p n) ⊎ (cascade p n ≤ 0) → nodes_needed p n ≡ 0
      within (inl split) = absurd (let full = cascade_leaf p n some split in omega arith)
      within (inr none) = let e = needed_part p n (omega arith) in omega arith

  pub needed_least : (p : List ℕ) (n : Node K V Z) → cascade p n ≤ nodes_needed p n
  needed_least p n = by_fullness p n (cascade p n ≤ nodes_needed p n) (λ f. rw f (omega arith)) (λ f. rw f (omega arith))

  pub needed_few : (p : List ℕ) (n : Node K V Z) → nodes_needed p n ≤ length p + 1
  needed_few p n = let w = cascade_most p n in by_fullness p n (nodes_needed p n ≤ length p + 1) (λ f. rw f (omega arith)) (λ f. rw f (omega arith))

  needed_positive : (p : List ℕ) (n : Node K V Z) → 0 < length p → 1 ≤ nodes_needed p n → 1 ≤ cascade p n
  needed_positive p n l h = by_fullness p n (1 ≤ cascade p n) (λ f. let w = cascade_whole p n f in omega arith)
      (λ f. let q = needed_part p n (cascade_part p n f) in omega arith)

  pub moves_part : (p : List ℕ) (n : Node K V Z) → cascade p n < length p → insertion_moves p n ≡ most_split_moves * cascade p n + capacity
  moves_part p n h = rw (part_full p n h) refl

-- the path from its second place on
abbrev pub rest_of : List ℕ → List ℕ
rest_of p = slice_range p 1 (length p)

-- a step down the path, to the child that was lent, and what a cascade is by the child's
pub record IsCascadeStep {K V Z : Type 0} (p : List ℕ) (n child : Node K V Z) : Type 0 where
  pub step : IsStep p n
  pub is : child ≡ child_at n (get_or p 0 0)
  pub most : cascade (rest_of p) child ≤ length (rest_of p)
  pub more : cascade (rest_of p) child ≤ cascade p n
  pub none : cascade (rest_of p) child ≡ 0 → cascade p n ≡ 0
  pub part : cascade (rest_of p) child < length (rest_of p) → cascade p n ≡ cascade (rest_of p) child
  pub room : length (own_pairs n) < capacity → cascade p n ≡ cascade (rest_of p) child
  pub full : length (own_pairs n) ≡ capacity → length (rest_of p) ≤ cascade (rest_of p) child → cascade p n ≡ length p

positive : (a b : ℕ) → (a ≡ 0 → b ≡ 0) → 1 ≤ b → 1 ≤ a
positive zero b f h = let e = f refl in omega arith
positive (suc a) b f h = omega arith

module _ {K V Z : Type 0} where
  pub cascade_step : (p : List ℕ) (n child : Node K V Z) → IsStep p n → child ≡ child_at n (get_or p 0 0) → IsCascadeStep p n child
  cascade_step p n child s e =
      let rest : List ℕ = rest_of p in
      let i : ℕ = get_or p 0 0 in
      let at : cascade p n ≡ cascade (i ∷ rest) n = ap (λ (q : List ℕ). cascade q n) s.path_is in
      let c : cascade rest child ≡ cascade rest (child_at n i) = ap (cascade rest) e in
      record {
        step = s;
        is = e;
        most = cascade_most rest child;
        more = (let w = cons_more i rest n in omega arith);
        none = λ h. at ∙ cons_part i rest n (omega arith) ∙ sym c ∙ h;
        part = λ h. at ∙ cons_part i rest n (omega arith) ∙ sym c;
        room = λ h. at ∙ cons_room i rest n h ∙ sym c;
        full = λ q h. at ∙ cons_full i rest n q (omega arith) ∙ ap length (sym s.path_is);
      }

  -- the spare leaf goes down with the path
  pub leaf_passed : (o : Option (Node K V Z)) {p : List ℕ} {n child : Node K V Z} → IsCascadeStep p n child → IsSpareLeaf o (cascade p n)
      → IsSpareLeaf o (cascade (rest_of p) child)
  leaf_passed None k h = omega arith
  leaf_passed (Some b) k h = (positive _ _ k.none h.0, h.1)

  -- what a room holds, by the cascade
  pub new_nodes_given : (o : Option (Node K V Z)) (inner : ℕ) (p : List ℕ) (n : Node K V Z) → spare_count o inner ≡ nodes_needed p n
      → IsSpareLeaf o (spare_count o inner)
      → 0 < length p → IsSpareLeaf o (cascade p n) × (inner ≡ nodes_needed p n - 1)
  new_nodes_given None inner p n e h l = let w = needed_least p n in (omega arith, omega arith)
  new_nodes_given (Some b) inner p n e h l = let w = needed_positive p n l in ((omega arith, h.1), omega arith)

-- what a node adds to a cascade that has come up to it
module _ {K V Z : Type 0} where
  pub above_halved : (o : Split K V Z) {p : List ℕ} {n child : Node K V Z} → IsCascadeStep p n child → cascade (rest_of p) child ≡ length (rest_of p)
      → MatchOption o (length (own_pairs n) < capacity) (λ _. length (own_pairs n) ≡ capacity)
      → MatchOption o (cascade p n < length p) (λ _. cascade p n ≡ length p)
  above_halved None k h f = let e = k.room f in omega arith
  above_halved (Some x) k h f = k.full f (omega arith)

  pub above_used : (o : Split K V Z) {p : List ℕ} {n child : Node K V Z} (a b d : ℕ) → IsCascadeStep p n child
      → cascade (rest_of p) child ≡ length (rest_of p) → MatchOption o (length (own_pairs n) < capacity) (λ _. length (own_pairs n) ≡ capacity)
      → b + (cascade (rest_of p) child - 1) ≡ a → MatchOption o (d ≡ b) (λ _. d + 1 ≡ b) → d + (cascade p n - 1) ≡ a
  above_used None a b d k h f u w = let e = k.room f in omega arith
  above_used (Some x) a b d k h f u w = let e = k.full f (omega arith) in omega arith

  pub above_moves : (o : Split K V Z) {p : List ℕ} {n child : Node K V Z} (a b d : ℕ) → IsCascadeStep p n child
      → cascade (rest_of p) child ≡ length (rest_of p) → MatchOption o (length (own_pairs n) < capacity) (λ _. length (own_pairs n) ≡ capacity)
      → b ≤ a + most_split_moves * cascade (rest_of p) child → MatchOption o (d ≤ b + capacity) (λ _. d ≤ b + most_split_moves)
      → MatchOption o (d ≤ a + most_split_moves * cascade p n + capacity) (λ _. d ≤ a + most_split_moves * cascade p n)
  above_moves None a b d k h f u w = let e = k.room f in omega arith
  above_moves (Some x) a b d k h f u w = let e = k.full f (omega arith) in omega arith
