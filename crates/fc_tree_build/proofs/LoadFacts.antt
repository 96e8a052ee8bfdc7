-- How many requests a load makes at most, as one pair more is put at its end.
use Rattle.std.proofs.Common.{◌≡◌, ℕ, zero, suc, ◌+◌, ◌*◌, ◌/◌, ◌≤◌, List, [], ◌++◌, length, refl, ap, arith, length-append, Option}
use Rattle.std.proofs.Common.{Some, None, sym, subst, ◌∙◌}
use Rattle.fc_base.specs.Sizes.{capacity, most_children, most_height, most_levels}
use Rattle.fc_tree_node.specs.declared.node.Node.{Node}
use Rattle.fc_tree_node.specs.Node.{own_pairs}
use Rattle.fc_tree_node.specs.Requests.{list_requests}
use Rattle.fc_tree_drain.specs.Opened.{before_back}
use Rattle.fc_tree_build.specs.Spine.{IsSpine}
use Rattle.fc_tree_build.specs.Spares.{leaves_for, inner_above, worth, needed, IsShort}
use Rattle.fc_tree_build.specs.Built.{Grown, grown, last_pairs, IsGrown}
use Rattle.fc_tree_build.specs.Loads.{load_requests}
use Rattle.fc_tree_build.proofs.Above.{above_grows}
use Rattle.fc_tree_build.proofs.Builders.{leaves_some}
use Rattle.fc_tree_build.proofs.SpineFacts.{above_one}

-- nodes with a list take no more than three requests each
pub lists_few : (k : ℕ) → list_requests 2 k ≤ 3 * k
lists_few zero = omega arith
lists_few (suc k) = omega arith

leaves_grow : (n : ℕ) → leaves_for n ≤ leaves_for (n + 1)
leaves_grow zero = omega arith
leaves_grow (suc n) =
    let few = leaves_some (suc n) (omega arith) in
    let more = leaves_some (suc n + 1) (omega arith) in
    omega arith

-- a pair more takes no fewer requests
pub load_grows : (n : ℕ) → load_requests n ≤ load_requests (n + 1)
load_grows n =
    let leaves = leaves_grow n in
    let inner = above_grows most_levels (n / most_children) ((n + 1) / most_children) (omega arith) in
    omega arith

module _ {K V Z : Type 0} where
  -- the first pair takes a leaf
  pub load_first : (o : Option (Node K V Z)) (s : List (Node K V Z)) (n : ℕ) (v : Grown K V) → o ≡ None → IsGrown s o n → grown s o ≡ v
      → load_requests (length v.pairs) + 1 ≡ load_requests (length v.pairs + 1)
  load_first o s n v e g f =
      let above : s ≡ [] = (subst (λ x. IsGrown s x n) e g).0 in
      let none : v.pairs ≡ [] = sym (ap (λ x. x.pairs) f) ∙ ap (λ x. before_back s ++ last_pairs x) e ∙ ap (λ t. before_back t ++ []) above in
      let one : load_requests 0 + 1 ≡ load_requests (0 + 1) = refl in
      subst (λ k. load_requests k + 1 ≡ load_requests (k + 1)) (sym (ap length none)) one

  load_full : (s : List (Node K V Z)) (n : ℕ) → IsSpine 0 s → IsShort s → length s ≤ most_height → n ≡ most_children * worth s + capacity
      → load_requests n + (1 + 3 * needed s) ≡ load_requests (n + 1)
  load_full s n f short low e =
      let one = above_one 0 s f short low in
      let q : n / most_children ≡ worth s = omega arith in
      let r : (n + 1) / most_children ≡ worth s + 1 = omega arith in
      let now = ap (inner_above most_levels) q in
      let next = ap (inner_above most_levels) r in
      let leaves = leaves_some n (omega arith) in
      let more = leaves_some (n + 1) (omega arith) in
      omega arith

  -- after a full leaf it takes a leaf, and each inner node that is needed
  pub load_grafted : (s : List (Node K V Z)) (leaf : Node K V Z) (n : ℕ) (zs : List (K × V)) → IsGrown s (Some leaf) n → capacity ≤ length (own_pairs leaf)
      → before_back s ++ own_pairs leaf ≡ zs → load_requests (length zs) + (1 + 3 * needed s) ≡ load_requests (length zs + 1)
  load_grafted s leaf n zs g full e =
      let l = ap length (sym e) ∙ length-append (before_back s) (own_pairs leaf) in
      load_full s (length zs) g.0.2 g.4 g.0.3 (omega (arith, l, g.0.0, g.1, g.3, full))
