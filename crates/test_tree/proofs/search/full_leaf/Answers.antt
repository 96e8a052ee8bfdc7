use Rattle.std.proofs.Common.{◌≡◌, ℕ, ◌+◌, ◌*◌, ◌<◌, List, [], ◌∷◌, ◌++◌, length, refl, sym, ap, subst, ◌∙◌, arith, length-append}
use Rattle.std.specs.List.{AllByRecursion, insert}
use Rattle.std.specs.Ordering.{nat_cmp, on}
use Rattle.std.specs.Cmp.{nat_cmp_is}
use Rattle.std.specs.declared.cmp.Ordering.TheVariants.{Less}
use Rattle.fc_base.specs.Ascending.{IsAscending}
use Rattle.test_values.specs.declared.counting.CountingKey.{CountingKey}
use Rattle.fc_tree_node.specs.Node.{own_pairs}
use Rattle.fc_tree_node.proofs.Lists.{all_both}
use Rattle.fc_tree_node.proofs.Pairs.{leaf_pairs}
use Rattle.test_tree.proofs.search.full_leaf.Goals as goal

abbrev Pair : Type 0
Pair = CountingKey × ℕ

abbrev AllUnder : ℕ → List Pair → Type 0
AllUnder m s = AllByRecursion (λ e. e.0.number < m) s

inserted_last : (s : List Pair) (p : Pair) → insert s (length s) p ≡ s ++ p ∷ []
inserted_last [] p = refl
inserted_last (e ∷ s) p = ap (λ zs. e ∷ zs) (inserted_last s p)

under_more : (s : List Pair) (m k : ℕ) → m < k → AllUnder m s → AllUnder k s
under_more [] m k h a = tt
under_more (e ∷ s) m k h a = (omega (arith, a.0), under_more s m k h a.1)

ascending_more : (s : List Pair) (p : Pair) → IsAscending (on (λ k. k.number) nat_cmp) s → AllUnder p.0.number s
    → IsAscending (on (λ k. k.number) nat_cmp) (s ++ p ∷ [])
ascending_more [] p a b = (tt, tt)
ascending_more (e ∷ s) p a b = (
  all_both (λ x. nat_cmp e.0.number x.0.number ≡ Less) s (p ∷ []) a.0 (sym (nat_cmp_is e.0.number p.0.number Less b.0), tt),
  ascending_more s p a.1 b.1,
)

-- the leaf's pairs with one more at the end
record IsGrown (s t : List Pair) (m : ℕ) : Type 0 where
  size : length t ≡ length s + 1
  ordered : IsAscending (on (λ k. k.number) nat_cmp) t
  under : AllUnder (m + 2) t

grown : (s t : List Pair) (p : Pair) (end : ℕ) → end ≡ length s → t ≡ insert s end p → IsAscending (on (λ k. k.number) nat_cmp) s → AllUnder p.0.number s
    → IsGrown s t p.0.number
grown s t p end e i a b =
    let is : t ≡ s ++ p ∷ [] = i ∙ ap (λ n. insert s n p) e ∙ inserted_last s p in
    record {
      size = ap length is ∙ length-append s (p ∷ []);
      ordered = subst (IsAscending (on (λ k. k.number) nat_cmp)) (sym is) (ascending_more s p a b);
      under = subst (AllUnder (p.0.number + 2)) (sym is) (all_both (λ x. x.0.number < p.0.number + 2) s (p ∷ [])
          (under_more s p.0.number (p.0.number + 2) (omega arith) b) (omega arith, tt));
    }

pub loop-half-preserved : goal.loop-half-preserved
loop-half-preserved c =
    let end = c.len-end.ensures.value in
    let pair : Pair = (record { number = 2 * c.loop-half.half; comparisons = c.args.comparisons }, c.loop-half.half) in
    let put : own_pairs c.insert_leaf.new.self ≡ insert (own_pairs c.loop-half.leaf) c.len-end.result pair = c.insert_leaf.ensures.pairs in
    let g = grown (own_pairs c.loop-half.leaf) (own_pairs c.insert_leaf.new.self) pair c.len-end.result end put c.loop-half.invariant.2
    c.loop-half.invariant.3 in
    let twice : 2 * c.loop-half.half + 2 ≡ 2 * (c.loop-half.half + 1) = omega arith in
    (c.insert_leaf.ensures.leaf, omega (arith, g.size), g.ordered, subst (λ m. AllUnder m (own_pairs c.insert_leaf.new.self)) twice g.under)

pub returns : goal.returns
returns c =
    let leaf = c.loop-half.leaf in (
      (0, omega arith, (omega arith, c.loop-half.invariant.0)),
      subst (IsAscending (on (λ k. k.number) nat_cmp)) (sym (leaf_pairs leaf c.loop-half.invariant.0))
          c.loop-half.invariant.2,
    )
