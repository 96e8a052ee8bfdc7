-- Hashed sets compared: subsets, and equality, which is symmetric and transitive.
use Rattle.std.proofs.Common.{◌≡◌, Bool, true, false, ◌&&◌, ◌||◌, List, [], ◌∷◌, refl, sym, ◌∙◌, true≢false}
use Rattle.std.proofs.Math.Bool.{and_comm}
use Rattle.std.specs.Prelude.{IsTrue}
use Rattle.std.specs.Cmp.{IsPartialEquivalence, IsEquivalence, first_so, second_so}
use Rattle.std.specs.List.{list_all}
use Rattle.std.specs.Set.{is_member}
use Rattle.fc_hash.specs.Items.{HashedSet}

module _ {T : Type 0} (eq : T → T → Bool) (ts us : List T) where
  -- An item that is equal to one of ts is equal to one of us.
  abbrev pub IsSubsetOf : Type 0
  IsSubsetOf = (q : T) → IsTrue (is_member eq ts q) → IsTrue (is_member eq us q)

  -- An item that is equal to one of ts is equal to none of us.
  abbrev pub IsDisjointFrom : Type 0
  IsDisjointFrom = (q : T) → IsTrue (is_member eq ts q) → is_member eq us q ≡ false

  -- Each item of either is equal to one of the other.
  abbrev pub are_same : Bool
  are_same = list_all (is_member eq us) ts && list_all (is_member eq ts) us

module _ {T : Type 0} {eq : T → T → Bool} (laws : IsEquivalence eq) where
  member_by_equal : (ts : List T) (q t : T) → eq q t ≡ true → is_member eq ts q ≡ is_member eq ts t
  member_by_equal [] q t e = refl
  member_by_equal (u ∷ us) q t e = λ i. laws.congr q t u e i || member_by_equal us q t e i

  member_if_first : (us : List T) (q t : T) (rest b : Bool) → (rest ≡ true → is_member eq us q ≡ true) → eq q t ≡ b → is_member eq us t ≡ true → (b || rest) ≡ true
      → is_member eq us q ≡ true
  member_if_first us q t rest true after e m there = member_by_equal us q t e ∙ m
  member_if_first us q t rest false after e m there = after there

  member_if_all : (us ts : List T) (q : T) → list_all (is_member eq us) ts ≡ true → is_member eq ts q ≡ true → is_member eq us q ≡ true
  member_if_all us [] q all there = absurd (true≢false (sym there))
  member_if_all us (t ∷ ts) q all there =
      let after = member_if_all us ts q (second_so (is_member eq us t) _ all) in
      member_if_first us q t (is_member eq ts q) (eq q t) after refl (first_so (is_member eq us t) _ all) there

  all_through : (ss ts us : List T) → list_all (is_member eq ts) ss ≡ true → list_all (is_member eq us) ts ≡ true → list_all (is_member eq us) ss ≡ true
  all_through [] ts us first second = refl
  all_through (s ∷ ss) ts us first second =
      let here = member_if_all us ts s second (first_so (is_member eq ts s) _ first) in
      let rest = all_through ss ts us (second_so (is_member eq ts s) _ first) second in
      λ i. here i && rest i

  pub same_items_per : IsPartialEquivalence (λ (s t : HashedSet T). are_same eq s.items t.items)
  same_items_per =
      record {
        symm = λ s t. and_comm (list_all (is_member eq t.items) s.items) (list_all (is_member eq s.items) t.items);
        trans = λ s t u e f.
            let within = λ (a b : HashedSet T). list_all (is_member eq b.items) a.items in
            let there = all_through s.items t.items u.items (first_so (within s t) _ e) (first_so (within t u) _ f) in
            let back = all_through u.items t.items s.items (second_so (within t u) _ f) (second_so (within s t) _ e) in
            λ i. there i && back i;
      }
