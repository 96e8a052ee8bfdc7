use Rattle.std.proofs.Common.{None, refl, sym, subst, arith}
use Rattle.fc_tree_build.specs.Built.{IsGrown}
use Rattle.fc_tree_build.proofs.growing.GrowingBuilder.new.Goals as goal

pub invariant_of-result : goal.invariant_of-result
invariant_of-result g c = subst (λ s. IsGrown s None 0) (sym c.new.ensures) (refl, refl, omega arith, refl, omega arith)
