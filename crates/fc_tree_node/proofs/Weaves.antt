-- Lists and items in turn, cut at a list or at an item.
use Rattle.std.proofs.Common.{◌≡◌, ◌+◌, ◌<◌, List, [], ◌∷◌, ◌++◌, length, refl, sym, ap, ◌∙◌, append_assoc, arith}
use Rattle.std.proofs.lemmas.List.{append-nil}
use Rattle.fc_tree_node.specs.Weave.{weave, before_list, after_list}

module _ {X : Type 0} where
  pub after_nil : (ps : List X) → after_list ps [] ≡ ps
  after_nil [] = refl
  after_nil (p ∷ ps) = refl

  -- at a list
  pub weave_at : (cs : List (List X)) (c : List X) (ds : List (List X)) (ps qs : List X) → length cs ≡ length ps
      → weave (cs ++ c ∷ ds) (ps ++ qs) ≡ before_list cs ps ++ (c ++ after_list qs ds)
  weave_at [] c ds [] qs e = refl
  weave_at [] c ds (p ∷ ps) qs e = absurd (omega arith)
  weave_at (b ∷ cs) c ds [] qs e = absurd (omega arith)
  weave_at (b ∷ []) c ds (p ∷ []) qs e = sym (append_assoc b (p ∷ []) _)
  weave_at (b ∷ []) c ds (p ∷ q ∷ ps) qs e = absurd (omega arith)
  weave_at (b ∷ d ∷ cs) c ds (p ∷ ps) qs e =
      let i = weave_at (d ∷ cs) c ds ps qs (omega arith) in
      ap (λ zs. b ++ p ∷ zs) i ∙ sym (append_assoc b (p ∷ before_list (d ∷ cs) ps) _)

  -- at an item: before it a list more than items
  pub weave_join : (c : List X) (cs : List (List X)) (d : List X) (ds : List (List X)) (ps : List X) (m : X) (qs : List X) → length cs ≡ length ps
      → weave ((c ∷ cs) ++ (d ∷ ds)) (ps ++ m ∷ qs) ≡ weave (c ∷ cs) ps ++ m ∷ weave (d ∷ ds) qs
  weave_join c [] d ds [] m qs e = ap (λ zs. zs ++ m ∷ (d ++ after_list qs ds)) (sym (append-nil c))
  weave_join c [] d ds (p ∷ ps) m qs e = absurd (omega arith)
  weave_join c (b ∷ cs) d ds [] m qs e = absurd (omega arith)
  weave_join c (b ∷ cs) d ds (p ∷ ps) m qs e =
      let i = weave_join b cs d ds ps m qs (omega arith) in
      ap (λ zs. c ++ p ∷ zs) i ∙ sym (append_assoc c (p ∷ (b ++ after_list ps cs)) _)

  pub weave_parts : (cs ds : List (List X)) (ps : List X) (m : X) (qs : List X) → length cs ≡ length ps + 1 → 0 < length ds
      → weave (cs ++ ds) (ps ++ m ∷ qs) ≡ weave cs ps ++ m ∷ weave ds qs
  weave_parts [] ds ps m qs e h = absurd (omega arith)
  weave_parts (c ∷ cs) [] ps m qs e h = absurd (omega arith)
  weave_parts (c ∷ cs) (d ∷ ds) ps m qs e h = weave_join c cs d ds ps m qs (omega arith)

  after_own_more : (cs ds : List (List X)) (ps qs : List X) → length cs ≡ length ps → after_list (ps ++ qs) (cs ++ ds) ≡ after_list ps cs ++ after_list qs ds
  after_own_more [] ds [] qs e = refl
  after_own_more [] ds (p ∷ ps) qs e = absurd (omega arith)
  after_own_more (c ∷ cs) ds [] qs e = absurd (omega arith)
  after_own_more (c ∷ cs) ds (p ∷ ps) qs e = ap (λ zs. p ∷ (c ++ zs)) (after_own_more cs ds ps qs (omega arith))
      ∙ ap (λ zs. p ∷ zs) (sym (append_assoc c (after_list ps cs) _))

  -- more items, each with a list after it, after a list more than items
  pub weave_more : (cs ds : List (List X)) (ps qs : List X) → length cs ≡ length ps + 1 → weave (cs ++ ds) (ps ++ qs) ≡ weave cs ps ++ after_list qs ds
  weave_more [] ds ps qs e = absurd (omega arith)
  weave_more (c ∷ cs) ds ps qs e = ap (λ zs. c ++ zs) (after_own_more cs ds ps qs (omega arith)) ∙ sym (append_assoc c (after_list ps cs) _)
