-- An ascending list of pairs, cut at a pair or at a gap, and what is below, at and above a key.
use Rattle.std.proofs.Common.{◌≡◌, ℕ, zero, suc, ◌+◌, ◌<◌, List, [], ◌∷◌, ◌++◌, length, take, get_or, Option, Some, None, refl, ap, ◌∙◌, arith, add-one}
use Rattle.std.proofs.Common.{append-nil}
use Rattle.std.specs.List.{AllByRecursion}
use Rattle.std.specs.Ordering.{is_lt, is_gt}
use Rattle.std.specs.declared.cmp.Ordering.{Ordering}
use Rattle.std.specs.declared.cmp.Ordering.TheVariants.{Less, Equal, Greater}
use Rattle.std.proofs.lemmas.List.Elements.{filter-append}
use Rattle.fc_base.specs.Ascending.{IsAscending}
use Rattle.fc_base.specs.Parts.{below, above, at}
use Rattle.fc_base.specs.Query.{IsQueryOrder}
use Rattle.fc_base.proofs.Laws.{ascending_front, ascending_back, smaller_before}
use Rattle.fc_tree_search.specs.Found.{AllBelow, AllAbove}
use Rattle.fc_tree_node.proofs.Lists.{all_both}

module _ {X : Type 0} (P : X → Type 0) where
  more_suc : (xs : List X) (i : ℕ) (d : X) → i < length xs → AllByRecursion P (take i xs) → P (get_or xs i d) → AllByRecursion P (take (suc i) xs)
  more_suc [] i d h a p = absurd (omega arith)
  more_suc (x ∷ xs) zero d h a p = (p, tt)
  more_suc (x ∷ xs) (suc i) d h a p = (a.0, more_suc xs i d (omega arith) a.1 p)

  -- what holds up to a place, and there
  pub all_more : (xs : List X) (i : ℕ) (d : X) → i < length xs → AllByRecursion P (take i xs) → P (get_or xs i d) → AllByRecursion P (take (i + 1) xs)
  all_more xs i d h a p = rw add-one (more_suc xs i d h a p)

module _ {K V : Type 0} (cmp : K → K → Ordering) where
  -- a part of an ascending list
  pub ascending_middle : (xs ys zs : List (K × V)) → IsAscending cmp (xs ++ (ys ++ zs)) → IsAscending cmp ys
  ascending_middle xs ys zs a = ascending_front cmp ys zs (ascending_back cmp xs (ys ++ zs) a)

module _ {K Q V : Type 0} (cmp : K → Q → Ordering) (k : Q) where
  -- what is around a key, in a list of smaller keys and in a list of greater keys
  pub record IsAround (s below_k above_k : List (K × V)) (at_k : Option (K × V)) : Type 0 where
    pub lower : below cmp s k ≡ below_k
    pub upper : above cmp s k ≡ above_k
    pub here : at cmp s k ≡ at_k

  around_below : (s : List (K × V)) → AllBelow cmp k s → IsAround s s [] None
  around_below [] a = record { lower = refl; upper = refl; here = refl }
  around_below (e ∷ s) a = let i = around_below s a.1 in record { lower = rw a.0 (ap (λ zs. e ∷ zs) i.lower); upper = rw a.0 i.upper; here = rw a.0 i.here }

  around_above : (s : List (K × V)) → AllAbove cmp k s → IsAround s [] s None
  around_above [] a = record { lower = refl; upper = refl; here = refl }
  around_above (e ∷ s) a = let i = around_above s a.1 in record { lower = rw a.0 i.lower; upper = rw a.0 (ap (λ zs. e ∷ zs) i.upper); here = rw a.0 i.here }

  -- the look-up goes over smaller keys
  pub at_after : (L s : List (K × V)) → AllBelow cmp k L → at cmp (L ++ s) k ≡ at cmp s k
  at_after [] s a = refl
  at_after (e ∷ L) s a = rw a.0 (at_after L s a.1)

  -- a list of smaller keys, then one of greater keys
  pub around_gap : (L R : List (K × V)) → AllBelow cmp k L → AllAbove cmp k R → IsAround (L ++ R) L R None
  around_gap L R a b =
      let l = around_below L a in let r = around_above R b in
      record {
        lower = filter-append (λ e. is_lt (cmp e.0 k)) L R ∙ ap (λ zs. zs ++ below cmp R k) l.lower ∙ ap (λ zs. L ++ zs) r.lower ∙ append-nil L;
        upper = filter-append (λ e. is_gt (cmp e.0 k)) L R ∙ ap (λ zs. zs ++ above cmp R k) l.upper ∙ r.upper;
        here = at_after L R a ∙ r.here;
      }

  around_equal : (p : K × V) (R : List (K × V)) → cmp p.0 k ≡ Equal → AllAbove cmp k R → IsAround (p ∷ R) [] R (Some p)
  around_equal p R e b = let r = around_above R b in record { lower = rw e r.lower; upper = rw e r.upper; here = rw e refl }

  -- a list of smaller keys, a pair with an equal key, then a list of greater keys
  pub around_pair : (L R : List (K × V)) (p : K × V) → AllBelow cmp k L → cmp p.0 k ≡ Equal → AllAbove cmp k R → IsAround (L ++ p ∷ R) L R (Some p)
  around_pair L R p a e b =
      let l = around_below L a in let r = around_equal p R e b in
      record {
        lower = filter-append (λ e. is_lt (cmp e.0 k)) L (p ∷ R) ∙ ap (λ zs. zs ++ below cmp (p ∷ R) k) l.lower ∙ ap (λ zs. L ++ zs) r.lower ∙ append-nil L;
        upper = filter-append (λ e. is_gt (cmp e.0 k)) L (p ∷ R) ∙ ap (λ zs. zs ++ above cmp (p ∷ R) k) l.upper ∙ r.upper;
        here = at_after L (p ∷ R) a ∙ r.here;
      }

module _ {K Q V : Type 0} {own : K → K → Ordering} {cmp : K → Q → Ordering} (o : IsQueryOrder own cmp) (k : Q) where
  -- the pairs with keys smaller than one that is at most k
  below_lower : (p : K × V) (xs : List (K × V)) → cmp p.0 k ≡ Less → AllByRecursion (λ e. own e.0 p.0 ≡ Less) xs → AllBelow cmp k xs
  below_lower p [] h a = tt
  below_lower p (x ∷ xs) h a = (o.lower k x.0 p.0 a.0 h, below_lower p xs h a.1)

  below_equal : (p : K × V) (xs : List (K × V)) → cmp p.0 k ≡ Equal → AllByRecursion (λ e. own e.0 p.0 ≡ Less) xs → AllBelow cmp k xs
  below_equal p [] h a = tt
  below_equal p (x ∷ xs) h a = (o.same k p.0 x.0 h ∙ a.0, below_equal p xs h a.1)

  above_equal : (p : K × V) (xs : List (K × V)) → cmp p.0 k ≡ Equal → AllByRecursion (λ e. own p.0 e.0 ≡ Less) xs → AllAbove cmp k xs
  above_equal p [] h a = tt
  above_equal p (x ∷ xs) h a = (o.after k p.0 x.0 a.0 h, above_equal p xs h a.1)

  above_upper : (p : K × V) (xs : List (K × V)) → cmp p.0 k ≡ Greater → AllByRecursion (λ e. own p.0 e.0 ≡ Less) xs → AllAbove cmp k xs
  above_upper p [] h a = tt
  above_upper p (x ∷ xs) h a = (o.upper k p.0 x.0 a.0 h, above_upper p xs h a.1)

  -- in an ascending list, at a pair with an equal key
  pub sides_equal : (L R : List (K × V)) (p : K × V) → IsAscending own (L ++ p ∷ R) → cmp p.0 k ≡ Equal → AllBelow cmp k L × AllAbove cmp k R
  sides_equal L R p a e = (below_equal p L e (smaller_before own L R p a), above_equal p R e (ascending_back own L (p ∷ R) a).0)

  -- up to a pair with a smaller key
  pub side_lower : (L R : List (K × V)) (p : K × V) → IsAscending own (L ++ p ∷ R) → cmp p.0 k ≡ Less → AllBelow cmp k (L ++ p ∷ [])
  side_lower L R p a e = all_both (λ x. cmp x.0 k ≡ Less) L (p ∷ []) (below_lower p L e (smaller_before own L R p a)) (e, tt)

  -- from a pair with a greater key on
  pub side_upper : (L R : List (K × V)) (p : K × V) → IsAscending own (L ++ p ∷ R) → cmp p.0 k ≡ Greater → AllAbove cmp k (p ∷ R)
  side_upper L R p a e = (e, above_upper p R e (ascending_back own L (p ∷ R) a).0)
