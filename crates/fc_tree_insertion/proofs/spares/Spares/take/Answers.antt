use Rattle.std.proofs.Common.{◌≡◌, ℕ, zero, suc, ◌-◌, Option, None, Some, refl, sym, subst, ◌∙◌, arith, rules}
use Rattle.std.specs.Option.{option_to_list}
use Rattle.fc_tree_node.specs.declared.node.Node.{Node}
use Rattle.fc_tree_insertion.specs.Chain.{IsAbove, AreSpares}
use Rattle.fc_tree_insertion.proofs.spares.Spares.take.Given as given
use Rattle.fc_tree_insertion.proofs.spares.Spares.take.Goals as goal
use Rattle.fc_tree_insertion.proofs.spares.Spares.take.Goals.{In-Some}

-- what the first of so many nodes lies above
below : {K V Z : Type 0} (n : ℕ) (o : Option (Node K V Z)) (b : Node K V Z) → AreSpares n o → o ≡ Some b
    → (x : Option (Node K V Z)) × IsAbove b x × AreSpares (n - 1) x
below zero o b s e = absurd (cc)
below (suc n) None b s e = absurd s
below (suc n) (Some d) b s e = search rules

same_items : {X : Type 0} (x y : Option X) → option_to_list x ≡ option_to_list y → x ≡ y
same_items None None e = refl
same_items None (Some b) e = absurd (cc)
same_items (Some a) None e = absurd (cc)
same_items (Some a) (Some b) e = cc

lower : (g : given.Over) (c : In-Some g) → (x : Option (Node g.row.K.Denot g.row.V.Denot g.row.A.Denot)) × IsAbove c.in-Some.node x
    × AreSpares (c.self.inside.len - 1) x
lower g c = below _ _ _ c.self.invariant.1 (sym c.take.ensures.value ∙ c.in-Some.is)

pub take_below-requires : goal.take_below-requires
take_below-requires g c = let l = lower g (goal.at.take_below-requires g c).In-Some in (l.0, l.1)

pub invariant_of-self : goal.invariant_of-self
invariant_of-self g c =
    let l = lower g (goal.at.invariant_of-self g c).In-Some in
    (omega arith, subst (AreSpares _) (same_items l.0 c.take_below.result (cc)) l.2)
