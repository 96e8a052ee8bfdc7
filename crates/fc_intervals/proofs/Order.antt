-- How the tests of an order chain.
use Rattle.std.proofs.Common.{◌≡◌, true, false, refl, sym, ap, ◌∙◌}
use Rattle.std.specs.Prelude.{not}
use Rattle.std.specs.Cmp.{IsTotalOrder}
use Rattle.std.specs.Ordering.{is_lt, is_le, is_ge, ordering_reverse}
use Rattle.std.specs.declared.cmp.Ordering.{Ordering}
use Rattle.std.specs.declared.cmp.Ordering.TheVariants.{Less, Equal, Greater}
use Rattle.std.proofs.lemmas.Cmp.{alike_right}

pub is_less : (r : Ordering) → is_lt r ≡ true → r ≡ Less
is_less Less h = refl
is_less Equal h = absurd cc
is_less Greater h = absurd cc

turned_at_most : (r : Ordering) → is_lt r ≡ false → is_le (ordering_reverse r) ≡ true
turned_at_most Less h = absurd cc
turned_at_most Equal h = refl
turned_at_most Greater h = refl

turned_not_less : (r : Ordering) → is_le r ≡ true → is_lt (ordering_reverse r) ≡ false
turned_not_less Less h = refl
turned_not_less Equal h = refl
turned_not_less Greater h = absurd cc

turned_least : (r : Ordering) → is_ge r ≡ true → is_le (ordering_reverse r) ≡ true
turned_least Less h = absurd cc
turned_least Equal h = refl
turned_least Greater h = refl

turned_more : (r : Ordering) → is_le r ≡ false → is_lt (ordering_reverse r) ≡ true
turned_more Less h = absurd cc
turned_more Equal h = absurd cc
turned_more Greater h = refl

pub not_less : (r : Ordering) → not (is_lt r) ≡ is_ge r
not_less Less = refl
not_less Equal = refl
not_less Greater = refl

module _ {K : Type 0} {cmp : K → K → Ordering} (o : IsTotalOrder cmp) where
  pub le_from_not_lt : (x y : K) → is_lt (cmp x y) ≡ false → is_le (cmp y x) ≡ true
  le_from_not_lt x y h = ap is_le (o.antisymm y x) ∙ turned_at_most (cmp x y) h

  pub lt_from_not_le : (x y : K) → is_le (cmp x y) ≡ false → is_lt (cmp y x) ≡ true
  lt_from_not_le x y h = ap is_lt (o.antisymm y x) ∙ turned_more (cmp x y) h

  pub not_lt_from_le : (x y : K) → is_le (cmp x y) ≡ true → is_lt (cmp y x) ≡ false
  not_lt_from_le x y h = ap is_lt (o.antisymm y x) ∙ turned_not_less (cmp x y) h

  pub not_le_from_less : (x y : K) → cmp x y ≡ Less → is_le (cmp y x) ≡ false
  not_le_from_less x y h = ap is_le (o.antisymm y x ∙ ap ordering_reverse h)

  pub le_from_ge : (x y : K) → is_ge (cmp x y) ≡ true → is_le (cmp y x) ≡ true
  le_from_ge x y h = ap is_le (o.antisymm y x) ∙ turned_least (cmp x y) h

  pub ge_from_le : (x y : K) → is_le (cmp x y) ≡ true → is_ge (cmp y x) ≡ true
  ge_from_le x y h = sym (not_less (cmp y x)) ∙ ap not (not_lt_from_le x y h)

  pub less_le : (x y z : K) → cmp x y ≡ Less → is_le (cmp y z) ≡ true → cmp x z ≡ Less
  less_le x y z p q = go (cmp y z) refl q
    where
      go : (r : Ordering) → cmp y z ≡ r → is_le r ≡ true → cmp x z ≡ Less
      go Less e h = o.trans x y z p e
      go Equal e h = sym (alike_right o y z x e) ∙ p
      go Greater e h = absurd cc

  pub le_less : (x y z : K) → is_le (cmp x y) ≡ true → cmp y z ≡ Less → cmp x z ≡ Less
  le_less x y z p q = go (cmp x y) refl p
    where
      go : (r : Ordering) → cmp x y ≡ r → is_le r ≡ true → cmp x z ≡ Less
      go Less e h = o.trans x y z e q
      go Equal e h = o.congr x y z e ∙ q
      go Greater e h = absurd cc

  pub le_le : (x y z : K) → is_le (cmp x y) ≡ true → is_le (cmp y z) ≡ true → is_le (cmp x z) ≡ true
  le_le x y z p q = go (cmp x y) refl p
    where
      go : (r : Ordering) → cmp x y ≡ r → is_le r ≡ true → is_le (cmp x z) ≡ true
      go Less e h = ap is_le (less_le x y z e q)
      go Equal e h = ap is_le (o.congr x y z e) ∙ q
      go Greater e h = absurd cc
