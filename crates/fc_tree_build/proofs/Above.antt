-- How many inner nodes stand above subtrees that are put one after another at the end of a tree.
use Rattle.std.proofs.Common.{◌≡◌, ℕ, zero, suc, ◌+◌, ◌*◌, ◌/◌, ◌^◌, ◌<◌, ◌≤◌, refl, ap, arith, ◌⊎◌, inl, inr, pow-suc}
use Rattle.std.specs.Prelude.{nat_le, if◌then◌else◌}
use Rattle.std.proofs.lemmas.Bool.{cases_lt, le-leb, lt-leb}
use Rattle.fc_base.specs.Sizes.{capacity, most_children}
use Rattle.fc_tree_build.specs.Spares.{inner_above}

pub above_none : (d : ℕ) → inner_above d 0 ≡ 0
above_none zero = refl
above_none (suc d) = refl

above_some : (d n : ℕ) → 0 < n → inner_above (suc d) n ≡ n / most_children + 1 + inner_above d (n / most_children)
above_some d zero h = absurd (omega arith)
above_some d (suc n) h = refl

-- those right above some subtrees, and those above these
pub above_more : (d n r : ℕ) → 0 < n → n < most_children ^ d → ((e : ℕ) → n / most_children < most_children ^ e → r ≡ inner_above e (n / most_children))
    → n / most_children + 1 + r ≡ inner_above d n
above_more zero n r h l f = absurd (let one : most_children ^ 0 ≡ 1 = refl in omega arith)
above_more (suc d) n r h l f =
    let more = pow-suc most_children d in
    let rest = f d (omega arith) in
    let all = above_some d n h in
    omega arith

pub above_grows : (d w v : ℕ) → w ≤ v → inner_above d w ≤ inner_above d v
above_grows zero w v l = omega arith
above_grows (suc d) zero v l = omega arith
above_grows (suc d) (suc w) zero l = absurd (omega arith)
above_grows (suc d) (suc w) (suc v) l = let i = above_grows d (suc w / most_children) (suc v / most_children) (omega arith) in omega arith

-- what one more node, with k pairs, makes of how many are needed
pub full_one : (a k : ℕ) → capacity ≤ k → (if nat_le capacity k then suc a else 0) ≡ suc a
full_one a k h = ap (λ f. if f then suc a else 0) (le-leb capacity k h)

pub room_one : (a k : ℕ) → k < capacity → (if nat_le capacity k then suc a else 0) ≡ 0
room_one a k h = ap (λ f. if f then suc a else 0) (lt-leb capacity k h)

-- the first subtree takes a node
pub above_first : (d : ℕ) → 0 < d → inner_above d (0 + 1) ≡ inner_above d 0 + 1
above_first zero h = absurd (omega arith)
above_first (suc d) h = let none = above_none d in omega arith

-- one more subtree takes as many nodes as are needed
pub above_next : (d w k a : ℕ) → k ≤ capacity → 0 < most_children * w + k → inner_above d (w + 1) ≡ inner_above d w + a
    → inner_above (suc d) (most_children * w + k + 1) ≡ inner_above (suc d) (most_children * w + k) + (if nat_le capacity k then suc a else 0)
above_next d w k a l h e = within (cases_lt k capacity)
  where
    here : inner_above (suc d) (most_children * w + k) ≡ w + 1 + inner_above d w
    here =
        let q : (most_children * w + k) / most_children ≡ w = omega arith in
        let s = above_some d (most_children * w + k) h in
        let i = ap (inner_above d) q in
        omega arith

    within : (k < capacity) ⊎ (capacity ≤ k)
        → inner_above (suc d) (most_children * w + k + 1) ≡ inner_above (suc d) (most_children * w + k) + (if nat_le capacity k then suc a else 0)
    within (inl room) =
        let q : (most_children * w + k + 1) / most_children ≡ w = omega arith in
        let s = above_some d (most_children * w + k + 1) (omega arith) in
        let i = ap (inner_above d) q in
        let is = room_one a k room in
        let same = here in
        omega arith
    within (inr full) =
        let q : (most_children * w + k + 1) / most_children ≡ w + 1 = omega arith in
        let s = above_some d (most_children * w + k + 1) (omega arith) in
        let i = ap (inner_above d) q in
        let is = full_one a k full in
        let same = here in
        omega arith
