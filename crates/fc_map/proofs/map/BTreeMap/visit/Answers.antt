use Rattle.std.proofs.Common.{◌-◌, length, sym, subst, ◌∙◌, arith}
use Rattle.fc_tree_cursor.specs.Gap.{AreEndsIn}
use Rattle.fc_map.proofs.EndFacts.{steps_fit}
use Rattle.fc_map.proofs.map.BTreeMap.visit.Goals as goal

pub advance-requires : goal.advance-requires
advance-requires g c = record {
  small = λ some.
      let fit = steps_fit c.args.self.now c.args.front.now c.args.gone (length c.args.front.now - 1) (rw c.self.view_is at c.self.invariant.1)
      c.requires.ends.0 (omega arith) in
      omega (arith, fit);
}

pub visit_tree-requires-clause-ends : goal.visit_tree-requires-clause-ends
visit_tree-requires-clause-ends g c = subst (λ p. AreEndsIn c.self.inside.root p c.args.back.now) (sym c.advance.ensures)
    (rw (← c.self.view_is) at c.requires.ends)

pub invariant_of-self : goal.invariant_of-self
invariant_of-self g c =
    let i = c.self.invariant in
    let v = c.visit_tree.ensures in (v.ascending g.K.Ord.cmp i.0, v.sound, i.2 ∙ sym v.length)
