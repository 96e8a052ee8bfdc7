-- A node whose children at i and i + 1 were lent in turn, and came back with a pair gone from one to the other.
use Rattle.std.proofs.Common.{◌≡◌, ℕ, ◌+◌, ◌-◌, ◌<◌, List, [], ◌∷◌, ◌++◌, length, get_or, sym, subst, ap, ◌∙◌, arith, append_assoc, length-append, Option, Some}
use Rattle.std.specs.Prelude.{slice_set}
use Rattle.std.specs.List.{insert, remove}
use Rattle.std.proofs.lemmas.List.{get_or-set_other, get_or_default}
use Rattle.std.proofs.lemmas.List.Edits.{get_or-remove_below}
use Rattle.std.specs.Option.{option_to_list}
use Rattle.fc_tree_node.specs.declared.node.Node.{Node, out-Node, roll-Node}
use Rattle.fc_tree_node.specs.Node.{own_pairs, children_of, child_at}
use Rattle.fc_tree_node.specs.Siblings.{AreAlike, IsShared, IsMerged}
use Rattle.fc_tree_node.proofs.Lists.{set_next, set_around, item_in}
use Rattle.fc_tree_node.proofs.Formed.{alike_both}
use Rattle.fc_tree_node.proofs.Made.{own_made, children_made, children_in}

-- Two nodes and the pair between them, before and after some of it went from one to the other.
pub record IsTrade {K V Z : Type 0} (n : ℕ) (l r l' r' : Node K V Z) (down up : K × V) : Type 0 where
  pub own : own_pairs l' ++ up ∷ own_pairs r' ≡ own_pairs l ++ down ∷ own_pairs r
  pub below : children_of l' ++ children_of r' ≡ children_of l ++ children_of r
  pub size : length (own_pairs l') ≡ n
  pub alike : AreAlike l' r'
  pub before : AreAlike l l'

-- The same, of several pairs, where what goes up and what comes down is read from lists that hold them.
pub record IsBulkTrade {K V Z : Type 0} (n : ℕ) (l r l' r' : Node K V Z) (down up : K × V → K × V) : Type 0 where
  pub own : (d : K × V) → own_pairs l' ++ up d ∷ own_pairs r' ≡ own_pairs l ++ down d ∷ own_pairs r
  pub below : children_of l' ++ children_of r' ≡ children_of l ++ children_of r
  pub size : length (own_pairs l') ≡ n
  pub alike : AreAlike l l' × AreAlike l' r'

module _ {K V Z : Type 0} where
  -- the last pair of the left goes up, and the pair in the middle to the front of the right
  pub traded_right : (l r l' r' : Node K V Z) (down up : K × V) (o : Option (Node K V Z)) → AreAlike l r → own_pairs l ≡ own_pairs l' ++ up ∷ []
      → children_of l ≡ children_of l' ++ option_to_list o → AreAlike l l'
      → own_pairs r' ≡ down ∷ own_pairs r → children_of r' ≡ option_to_list o ++ children_of r → AreAlike r r'
      → IsTrade (length (own_pairs l) - 1) l r l' r' down up
  traded_right l r l' r' down up o a p c k q d m = record {
    own = ap (λ ps. own_pairs l' ++ up ∷ ps) q ∙ sym (append_assoc (own_pairs l') (up ∷ []) _) ∙ ap (λ ps. ps ++ down ∷ own_pairs r) (sym p);
    below = ap (λ cs. children_of l' ++ cs) d ∙ sym (append_assoc (children_of l') _ _) ∙ ap (λ cs. cs ++ children_of r) (sym c);
    size = (let e : length (own_pairs l) ≡ length (own_pairs l') + 1 = ap length p ∙ length-append (own_pairs l') (up ∷ []) in omega arith);
    alike = alike_both r l' r' (alike_both l r l' a k) m;
    before = k;
  }

  -- the first pair of the right goes up, and the pair in the middle to the end of the left
  pub traded_left : (l r l' r' : Node K V Z) (down up : K × V) (o : Option (Node K V Z)) → AreAlike l r → own_pairs r ≡ up ∷ own_pairs r'
      → children_of r ≡ option_to_list o ++ children_of r' → AreAlike r r'
      → own_pairs l' ≡ own_pairs l ++ down ∷ [] → children_of l' ≡ children_of l ++ option_to_list o → AreAlike l l'
      → IsTrade (length (own_pairs l) + 1) l r l' r' down up
  traded_left l r l' r' down up o a p c k q d m = record {
    own = ap (λ ps. ps ++ up ∷ own_pairs r') q ∙ append_assoc (own_pairs l) (down ∷ []) _ ∙ ap (λ ps. own_pairs l ++ down ∷ ps) (sym p);
    below = ap (λ cs. cs ++ children_of r') d ∙ append_assoc (children_of l) _ _ ∙ ap (λ cs. children_of l ++ cs) (sym c);
    size = ap length q ∙ length-append (own_pairs l) (down ∷ []);
    alike = alike_both r l' r' (alike_both l r l' a m) k;
    before = m;
  }

module _ {K V Z : Type 0} (old : Node K V Z) (i : ℕ) (bs : List (Node K V Z)) (e : (out-Node K V Z old).children ≡ Some bs) where
  -- the child that is read at a place
  pub listed_child : (j : ℕ) (n : Node K V Z) → j < length bs → n ≡ get_or bs j n → n ≡ child_at old j
  listed_child j n h p = p ∙ get_or_default bs j n old h ∙ ap (λ cs. get_or cs j old) (sym (children_in old bs e))

  -- the child after the one that came back as b
  pub next_child : (b n : Node K V Z) → i + 1 < length bs → n ≡ get_or (slice_set bs i b) (i + 1) n → n ≡ child_at old (i + 1)
  next_child b n h p = listed_child (i + 1) n h (p ∙ get_or-set_other bs i (i + 1) b n (λ s. omega arith))

  -- the child before the one that came back as b
  pub last_child : (b n : Node K V Z) → i < length bs → n ≡ get_or (slice_set bs (i + 1) b) i n → n ≡ child_at old i
  last_child b n h p = listed_child i n h (p ∙ get_or-set_other bs (i + 1) i b n (λ s. omega arith))

  -- the child before the one that was taken out
  pub kept_child : (cs : List (Node K V Z)) (n : Node K V Z) → i + 1 < length bs → cs ≡ remove bs (i + 1) → n ≡ get_or cs i n → n ≡ child_at old i
  kept_child cs n h c p = listed_child i n (omega arith) (p ∙ ap (λ xs. get_or xs i n) c ∙ get_or-remove_below bs (i + 1) n i (omega arith) h)

  pub share_made : (n : ℕ) (b b' : Node K V Z) (s d : K × V) (ps : List (K × V)) → i < length (own_pairs old) → ps ≡ slice_set (own_pairs old) i s
      → d ≡ get_or (own_pairs old) i d
      → IsTrade n (child_at old i) (child_at old (i + 1)) b b' d s
      → IsShared i n old (roll-Node K V Z (record { pairs = ps; children = Some (slice_set (slice_set bs i b) (i + 1) b') }))
  share_made n b b' s d ps h p q t = record {
    left = b;
    between = s;
    right = b';
    pairs = own_made _ ∙ p;
    children = children_made _ ∙ ap (λ cs. slice_set (slice_set cs i b) (i + 1) b') (sym (children_in old bs e));
    own = λ x. t.own ∙ ap (λ y. own_pairs (child_at old i) ++ y ∷ own_pairs (child_at old (i + 1))) (q ∙ get_or_default (own_pairs old) i d x h);
    below = t.below;
    size = t.size;
    alike = t.alike;
    alike_before = t.before;
  }

  -- the two came back in the other order
  pub share_made_back : (n : ℕ) (b b' : Node K V Z) (s d : K × V) (ps : List (K × V)) → i < length (own_pairs old) → ps ≡ slice_set (own_pairs old) i s
      → d ≡ get_or (own_pairs old) i d
      → IsTrade n (child_at old i) (child_at old (i + 1)) b b' d s
      → IsShared i n old (roll-Node K V Z (record { pairs = ps; children = Some (slice_set (slice_set bs (i + 1) b') i b) }))
  share_made_back n b b' s d ps h p q t =
      subst (λ cs. IsShared i n old (roll-Node K V Z (record { pairs = ps; children = Some cs }))) (sym (set_next bs i b b')) (share_made n b b' s d ps h p q t)

  -- the child at i + 1 was taken out, and the one at i came back with all of it
  pub merge_made : (b : Node K V Z) (d : K × V) (ps : List (K × V)) (cs : List (Node K V Z)) → i < length (own_pairs old) → ps ≡ remove (own_pairs old) i
      → cs ≡ remove bs (i + 1) → d ≡ get_or (own_pairs old) i d
      → own_pairs b ≡ own_pairs (child_at old i) ++ d ∷ own_pairs (child_at old (i + 1))
      → children_of b ≡ children_of (child_at old i) ++ children_of (child_at old (i + 1)) → AreAlike (child_at old i) b
      → IsMerged i old (roll-Node K V Z (record { pairs = ps; children = Some (slice_set cs i b) }))
  merge_made b d ps cs h p c q own below alike = record {
    whole = b;
    pairs = own_made _ ∙ p;
    children = children_made _ ∙ ap (λ xs. slice_set xs i b) (c ∙ ap (λ xs. remove xs (i + 1)) (sym (children_in old bs e)));
    own = λ x. own ∙ ap (λ y. own_pairs (child_at old i) ++ y ∷ own_pairs (child_at old (i + 1))) (q ∙ get_or_default (own_pairs old) i d x h);
    below = below;
    alike = alike;
  }

  -- the child at i + 1 was taken out and put back, and the one at i was lent
  pub bulk_made : (n : ℕ) (b b' : Node K V Z) (up : K × V → K × V) (ps : List (K × V)) (cs₀ cs : List (Node K V Z)) → i < length (own_pairs old)
      → i + 1 < length bs → ((d : K × V) → ps ≡ slice_set (own_pairs old) i (up d))
      → cs₀ ≡ remove bs (i + 1) → cs ≡ insert (slice_set cs₀ i b) (i + 1) b'
      → IsBulkTrade n (child_at old i) (child_at old (i + 1)) b b' (get_or (own_pairs old) i) up
      → IsShared i n old (roll-Node K V Z (record { pairs = ps; children = Some cs }))
  bulk_made n b b' up ps cs₀ cs h k p q₀ q t =
      let d₀ : K × V = item_in (own_pairs old) (omega arith) in
      let d : K × V = get_or (own_pairs old) i d₀ in
      let u = get_or_default (own_pairs old) i d₀ d h in
      subst (λ xs. IsShared i n old (roll-Node K V Z (record { pairs = ps; children = Some xs })))
      (sym (q ∙ ap (λ xs. insert (slice_set xs i b) (i + 1) b') q₀ ∙ set_around bs i b b' k))
      (share_made n b b' (up d₀) d ps h (p d₀) u (record { own = t.own d₀; below = t.below; size = t.size; alike = t.alike.1; before = t.alike.0 }))
