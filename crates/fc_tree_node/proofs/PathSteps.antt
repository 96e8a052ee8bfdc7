-- A path of two or more places, as its first step and the rest.
use Rattle.std.proofs.Common.{◌≡◌, ℕ, suc, zero, ◌+◌, ◌-◌, ◌<◌, ◌≤◌, List, [], ◌∷◌, length, get_or, take, refl, sym, ap, subst, arith}
use Rattle.std.specs.Prelude.{slice_range}
use Rattle.fc_tree_node.specs.declared.node.Node.{Node}
use Rattle.fc_tree_node.specs.Node.{own_pairs, child_at, IsLevelled, IsInner}
use Rattle.fc_tree_node.specs.Path.{IsPath}

pub one_step : (p : List ℕ) → length p ≡ 1 → p ≡ get_or p 0 0 ∷ []
one_step [] e = absurd (omega arith)
one_step (i ∷ []) e = refl
one_step (i ∷ j ∷ p) e = absurd (omega arith)

pub take_all : (p : List ℕ) (n : ℕ) → n ≡ length p → take n p ≡ p
take_all [] zero e = refl
take_all [] (suc n) e = refl
take_all (i ∷ p) zero e = absurd (omega arith)
take_all (i ∷ p) (suc n) e = ap (λ q. i ∷ q) (take_all p n (omega arith))

pub more_steps : (p : List ℕ) → 0 < length p → p ≡ get_or p 0 0 ∷ slice_range p 1 (length p)
more_steps [] h = absurd (omega arith)
more_steps (i ∷ p) h = ap (λ q. i ∷ q) (sym (take_all p (suc (length p) - 1) (omega arith)))

pub record IsStep {K V Z : Type 0} (p : List ℕ) (n : Node K V Z) : Type 0 where
  pub path_is : p ≡ get_or p 0 0 ∷ slice_range p 1 (length p)
  pub le : get_or p 0 0 ≤ length (own_pairs n)
  pub onward : IsPath (slice_range p 1 (length p)) (child_at n (get_or p 0 0))
  pub long : length (slice_range p 1 (length p)) + 1 ≡ length p
  pub height : length p - 1 ≡ suc (length (slice_range p 1 (length p)) - 1)
  pub levels : IsLevelled (suc (length (slice_range p 1 (length p)) - 1)) n
  pub inner : IsInner n

pub step_of : {K V Z : Type 0} (p : List ℕ) (n : Node K V Z) → 2 ≤ length p → IsPath p n → IsLevelled (length p - 1) n → IsStep p n
step_of {K} {V} p n h w l =
    let e : p ≡ get_or p 0 0 ∷ slice_range p 1 (length p) = more_steps p (omega arith) in
    let k : length p ≡ suc (length (slice_range p 1 (length p))) = ap length e in
    let s : length p - 1 ≡ suc (length (slice_range p 1 (length p)) - 1) = omega arith in
    let q = subst (λ (r : List ℕ). IsPath r n) e w in
    let v : IsLevelled (suc (length (slice_range p 1 (length p)) - 1)) n = subst (λ (m : ℕ). IsLevelled m n) s l in
    record { path_is = e; le = q.0; onward = q.1; long = omega arith; height = s; levels = v; inner = v.1 }
