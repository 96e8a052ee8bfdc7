-- The steps to a new pair, found from the leaf upwards.
use Rattle.std.proofs.Common.{◌≡◌, ℕ, suc, zero, ◌-◌, ◌<◌, ◌≤◌, Bool, false, List, [], ◌∷◌, ◌++◌, length, get_or, take, drop, refl, sym, ap, ◌∙◌, arith}
use Rattle.std.specs.Prelude.{slice_set}
use Rattle.fc_tree_insertion.specs.NewPair.{step_from, goes_right, half_step, is_right, steps_to_new_pair}
use Rattle.fc_tree_node.proofs.Gaps.{drop_item, drop_all}
use Rattle.fc_tree_node.proofs.Lists.{take_drop}

get_taken : (p q : List ℕ) (j : ℕ) → j < length p → get_or (take (suc j) p ++ q) j 0 ≡ get_or p j 0
get_taken [] q j h = absurd (omega arith)
get_taken (i ∷ p) q zero h = refl
get_taken (i ∷ p) q (suc j) h = get_taken p q j (omega arith)

set_taken : (p q : List ℕ) (j x : ℕ) → j < length p → slice_set (take (suc j) p ++ q) j x ≡ take j p ++ x ∷ q
set_taken [] q j x h = absurd (omega arith)
set_taken (i ∷ p) q zero x h = refl
set_taken (i ∷ p) q (suc j) x h = ap (λ r. i ∷ r) (set_taken p q j x (omega arith))

-- the steps from one place on are found, of a path that has come to another
pub record IsFoundFrom (p q : List ℕ) (right : Bool) (whole at : ℕ) : Type 0 where
  pub steps : q ≡ take at p ++ steps_to_new_pair (whole - at) (drop at p)
  pub side : right ≡ is_right (whole - at) (drop at p)

module _ (p q : List ℕ) (right : Bool) (whole j : ℕ) (lt : j < length p) (found : IsFoundFrom p q right whole (suc j)) where
  pub index_is : get_or q j 0 ≡ get_or p j 0
  index_is = ap (λ r. get_or r j 0) found.steps ∙ get_taken p _ j lt

  set_is : (x : ℕ) → slice_set q j x ≡ take j p ++ x ∷ steps_to_new_pair (whole - suc j) (drop (suc j) p)
  set_is x = ap (λ r. slice_set r j x) found.steps ∙ set_taken p _ j x lt

  -- a node that stays whole
  pub found_whole : j < whole → IsFoundFrom p (slice_set q j (step_from (get_or q j 0) right)) false whole j
  found_whole h =
      let i = get_or p j 0 in
      let w : whole - j ≡ suc (whole - suc j) = omega arith in
      let all : drop j p ≡ i ∷ drop (suc j) p = drop_item p j 0 lt in
      record {
        steps = set_is _ ∙ ap (λ k. take j p ++ step_from k right ∷ steps_to_new_pair (whole - suc j) (drop (suc j) p)) index_is
            ∙ ap (λ b. take j p ++ step_from i b ∷ steps_to_new_pair (whole - suc j) (drop (suc j) p)) found.side
            ∙ ap (λ k. take j p ++ steps_to_new_pair k (i ∷ drop (suc j) p)) (sym w) ∙ ap (λ r. take j p ++ steps_to_new_pair (whole - j) r) (sym all);
        side = ap (λ k. is_right k (i ∷ drop (suc j) p)) (sym w) ∙ ap (is_right (whole - j)) (sym all);
      }

  -- a node that is split
  pub found_split : whole ≤ j → IsFoundFrom p (slice_set q j (half_step (get_or q j 0) (step_from (get_or q j 0) right)))
      (goes_right (get_or q j 0) (step_from (get_or q j 0) right)) whole j
  found_split h =
      let i = get_or p j 0 in
      let w : whole - j ≡ 0 = omega arith in
      let v : whole - suc j ≡ 0 = omega arith in
      let all : drop j p ≡ i ∷ drop (suc j) p = drop_item p j 0 lt in
      let b : right ≡ is_right 0 (drop (suc j) p) = found.side ∙ ap (λ k. is_right k (drop (suc j) p)) v in
      record {
        steps = set_is _ ∙ ap (λ k. take j p ++ half_step k (step_from k right) ∷ steps_to_new_pair (whole - suc j) (drop (suc j) p)) index_is
            ∙ ap (λ c. take j p ++ half_step i (step_from i c) ∷ steps_to_new_pair (whole - suc j) (drop (suc j) p)) b
            ∙ ap (λ k. take j p ++ half_step i (step_from i (is_right 0 (drop (suc j) p))) ∷ steps_to_new_pair k (drop (suc j) p)) v
            ∙ ap (λ k. take j p ++ steps_to_new_pair k (i ∷ drop (suc j) p)) (sym w) ∙ ap (λ r. take j p ++ steps_to_new_pair (whole - j) r) (sym all);
        side = ap (λ k. goes_right k (step_from k right)) index_is ∙ ap (λ c. goes_right i (step_from i c)) b
            ∙ ap (λ k. is_right k (i ∷ drop (suc j) p)) (sym w) ∙ ap (is_right (whole - j)) (sym all);
      }

pub found_none : (p : List ℕ) (whole n : ℕ) → n ≡ length p → IsFoundFrom p p false whole n
found_none p whole n e =
    let d : drop n p ≡ [] = drop_all p n (omega arith) in
    record {
      steps = sym (take_drop n p) ∙ ap (λ r. take n p ++ r) d ∙ sym (ap (λ r. take n p ++ steps_to_new_pair (whole - n) r) d);
      side = sym (ap (is_right (whole - n)) d);
    }

pub found_all : (p q : List ℕ) (right : Bool) (whole : ℕ) → IsFoundFrom p q right whole 0 → (q ≡ steps_to_new_pair whole p) × (right ≡ is_right whole p)
found_all p q right whole f = let z : whole - 0 ≡ whole = omega arith in (f.steps ∙ ap (λ k. steps_to_new_pair k p) z, f.side ∙ ap (λ k. is_right k p) z)

pub length_steps_to_new_pair : (whole : ℕ) (p : List ℕ) → length (steps_to_new_pair whole p) ≡ length p
length_steps_to_new_pair whole [] = refl
length_steps_to_new_pair (suc whole) (i ∷ p) = ap suc (length_steps_to_new_pair whole p)
length_steps_to_new_pair zero (i ∷ p) = ap suc (length_steps_to_new_pair zero p)
