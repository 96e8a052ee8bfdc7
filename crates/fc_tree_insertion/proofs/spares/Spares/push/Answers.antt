use Rattle.std.proofs.Common.{◌≡◌, ℕ, suc, ◌+◌, Option, Some, subst, arith, rules}
use Rattle.fc_tree_node.specs.declared.node.Node.{Node}
use Rattle.fc_tree_insertion.specs.Chain.{IsAbove, AreSpares}
use Rattle.fc_tree_insertion.proofs.spares.Spares.push.Goals as goal
use Rattle.fc_tree_insertion.proofs.spares.Spares.push.Goals.{in-Some, in_default}

one_more : {K V Z : Type 0} (n : ℕ) (o : Option (Node K V Z)) (b : Node K V Z) → AreSpares n o → IsAbove b o → AreSpares (n + 1) (Some b)
one_more n o b s a = let next : suc n ≡ n + 1 = omega arith in subst (λ m. AreSpares m (Some b)) next (o, a, s)

pub invariant_of-self : goal.invariant_of-self
invariant_of-self g c = (
  omega (arith, c.requires.few, c.self.view_is),
  one_more c.self.inside.len c.self.inside.top c.match-take.node c.self.invariant.1
      (elim c.match-take.branch [ in-Some w ↦ search rules | in_default w ↦ search rules ]),
)
