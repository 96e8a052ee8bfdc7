-- Calls at pairs in turn, from one place of a list to another.
use Rattle.std.proofs.Common.{◌≡◌, ℕ, suc, ◌+◌, ◌≤◌, List, [], ◌∷◌, ◌++◌, length, take, drop, refl, sym, ap, subst, ◌∙◌, append_assoc, arith}
use Rattle.std.proofs.Math.Seq.{take-append_seam, drop-append_seam}
use Rattle.std.proofs.lemmas.List.{length-append}
use Rattle.fc_tree_node.proofs.Lists.{length_take, take_drop}
use Rattle.fc_tree_cursor.proofs.Bounds.{same_cut}
use Rattle.fc_tree_for_each.specs.Visits.{VisitsInTurn, IsVisited, IsVisitedAt}

module _ {F K V : Type 0} (R : F → K × V → F → V → Type 0) where
  visits_join : (xs ys zs ws : List (K × V)) (f g h : F) → VisitsInTurn R f xs g zs → VisitsInTurn R g ys h ws → VisitsInTurn R f (xs ++ ys) h (zs ++ ws)
  visits_join [] ys zs ws f g h v w = subst (λ s. VisitsInTurn R f ys h (s ++ ws)) (sym v.1) (subst (λ x. VisitsInTurn R x ys h ws) v.0 w)
  visits_join (e ∷ es) ys zs ws f g h v w = (v.0, v.1, v.2 ++ ws, v.3, visits_join es ys v.2 ws v.0 g h v.4 w, ap (λ s. s ++ ws) v.5)

  left_length : (xs ys : List (K × V)) (f g : F) → VisitsInTurn R f xs g ys → length ys ≡ length xs
  left_length [] ys f g v = ap length v.1
  left_length (e ∷ es) ys f g v = ap length v.5 ∙ ap (λ k. suc k) (left_length es v.2 v.0 g v.4)

  -- none yet
  pub at_first : (f : F) (a : ℕ) (xs : List (K × V)) → a ≤ length xs → IsVisitedAt R f f a a xs xs
  at_first f a xs h =
      let e = sym (take_drop a xs) in
      let s = length_take a xs h in
      record {
        front = take a xs;
        back = drop a xs;
        visited = record { within = []; left = []; old_is = e; new_is = e; visits = (refl, refl) };
        start = s;
        stop = omega arith;
      }

  pub at_one : (e : K × V) (f g : F) (w : V) (before after old new : List (K × V)) (a : ℕ) → R f e g w → old ≡ before ++ e ∷ after
      → new ≡ before ++ (e.0, w) ∷ after → length before ≡ a → IsVisitedAt R f g a (a + 1) old new
  at_one e f g w before after old new a r p q s = record {
    front = before;
    back = after;
    visited = record { within = e ∷ []; left = (e.0, w) ∷ []; old_is = p; new_is = q; visits = (g, w, [], r, (refl, refl), refl) };
    start = s;
    stop = omega arith;
  }

  -- one after another
  pub at_join : (f g h : F) (a b c : ℕ) (xs ys zs : List (K × V)) → IsVisitedAt R f g a b xs ys → IsVisitedAt R g h b c ys zs → IsVisitedAt R f h a c xs zs
  at_join f g h a b c xs ys zs v w =
      let i = v.visited in
      let j = w.visited in
      let n = left_length i.within i.left f g i.visits in
      let q = length-append v.front i.left in
      let cut = same_cut (v.front ++ i.left) v.back w.front (j.within ++ w.back) (append_assoc v.front i.left v.back ∙ sym i.new_is ∙ j.old_is)
      (omega arith) in
      let k = length-append i.within j.within in
      record {
        front = v.front;
        back = w.back;
        visited = record {
          within = i.within ++ j.within;
          left = i.left ++ j.left;
          old_is = i.old_is ∙ ap (λ zs. v.front ++ (i.within ++ zs)) cut.1 ∙ ap (λ zs. v.front ++ zs) (sym (append_assoc i.within j.within w.back));
          new_is = j.new_is ∙ ap (λ ps. ps ++ (j.left ++ w.back)) (sym cut.0) ∙ regroup v.front i.left j.left w.back;
          visits = visits_join i.within j.within i.left j.left f g h i.visits j.visits;
        };
        start = v.start;
        stop = omega arith;
      }
    where
      regroup : (p q r s : List (K × V)) → (p ++ q) ++ (r ++ s) ≡ p ++ ((q ++ r) ++ s)
      regroup p q r s = simp append_assoc

  -- in a part of a list
  pub at_part : (p q : List (K × V)) (f g : F) (a b a' b' : ℕ) (xs ys old new : List (K × V)) → IsVisitedAt R f g a b xs ys → old ≡ p ++ (xs ++ q)
      → new ≡ p ++ (ys ++ q) → a' ≡ length p + a → b' ≡ length p + b → IsVisitedAt R f g a' b' old new
  at_part p q f g a b a' b' xs ys old new v eo en ea eb =
      let i = v.visited in
      let k = length-append p v.front in
      record {
        front = p ++ v.front;
        back = v.back ++ q;
        visited = record {
          within = i.within;
          left = i.left;
          old_is = eo ∙ ap (λ z. p ++ (z ++ q)) i.old_is ∙ shift v.front i.within v.back;
          new_is = en ∙ ap (λ z. p ++ (z ++ q)) i.new_is ∙ shift v.front i.left v.back;
          visits = i.visits;
        };
        start = omega arith;
        stop = omega arith;
      }
    where
      shift : (a w b : List (K × V)) → p ++ ((a ++ (w ++ b)) ++ q) ≡ (p ++ a) ++ (w ++ (b ++ q))
      shift a w b = simp append_assoc

  -- the places as parts of the list
  pub at_lists : (f g : F) (a b : ℕ) (old new : List (K × V)) → IsVisitedAt R f g a b old new → IsVisited R f g (take a old) (drop b old) old new
  at_lists f g a b old new v =
      let i = v.visited in
      let k = length-append v.front i.within in
      let n : length (v.front ++ i.within) ≡ b = k ∙ v.stop in
      let t : take a old ≡ v.front = (λ j. take (sym v.start j) (i.old_is j)) ∙ take-append_seam v.front (i.within ++ v.back) in
      let d : drop b old ≡ v.back = (λ j. drop (sym n j) ((i.old_is ∙ sym (append_assoc v.front i.within v.back)) j))
      ∙ drop-append_seam (v.front ++ i.within) v.back in
      rw (t, d) i
