-- Orders of keys to queries that are views of one total order.
use Rattle.std.proofs.Common.{◌≡◌, sym, ap, ◌∙◌}
use Rattle.std.specs.Ordering.{ordering_reverse}
use Rattle.std.specs.Cmp.{IsTotalOrder}
use Rattle.std.specs.declared.cmp.Ordering.{Ordering}
use Rattle.std.specs.declared.cmp.Ordering.TheVariants.{Less, Equal, Greater}
use Rattle.fc_base.specs.Query.{IsQueryOrder}

pub over_one : {K : Type 0} (cmp : K → K → Ordering) (total : IsTotalOrder cmp) (k y : K) → cmp k y ≡ Less → cmp y k ≡ Greater
over_one cmp total k y h = total.antisymm y k ∙ ap ordering_reverse h

module _ {A : Type 0} {cmp : A → A → Ordering} (o : IsTotalOrder cmp) where
  equal_right : (x y q : A) → cmp x q ≡ Equal → cmp y q ≡ cmp y x
  equal_right x y q e = o.antisymm y q ∙ ap ordering_reverse (sym (o.congr x q y e)) ∙ sym (o.antisymm y x)

  -- Keys and queries that are both seen as values of one total order.
  pub viewed : {K Q : Type 0} (key : K → A) (query : Q → A) → IsQueryOrder (λ x y. cmp (key x) (key y)) (λ x q. cmp (key x) (query q))
  viewed key query = record {
    same = λ q x y e. equal_right (key x) (key y) (query q) e;
    lower = λ q x y l e. o.trans (key x) (key y) (query q) l e;
    after = λ q x y l e. equal_right (key x) (key y) (query q) e ∙ over_one cmp o (key x) (key y) l;
    upper = λ q x y l g. over_one cmp o (query q) (key y) (o.trans (query q) (key x) (key y) (o.antisymm (query q) (key x) ∙ ap ordering_reverse g) l);
  }

  -- Keys as queries.
  pub own_order : IsQueryOrder cmp cmp
  own_order = viewed (λ x. x) (λ x. x)
