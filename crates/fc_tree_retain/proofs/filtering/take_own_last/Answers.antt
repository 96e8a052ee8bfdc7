use Rattle.std.proofs.Common.{[], ◌∷◌, ◌++◌, sym, ap, ◌∙◌}
use Rattle.fc_tree_retain.proofs.Passing.{IsEndOff, end_off}
use Rattle.fc_tree_retain.proofs.filtering.take_own_last.Given as given
use Rattle.fc_tree_retain.proofs.filtering.take_own_last.Goals as goal
use Rattle.fc_tree_retain.proofs.filtering.take_own_last.Goals.{After-take_last_pair}

taken : (g : given.Over) (c : After-take_last_pair g) → IsEndOff c.args.node.now c.take_last_pair.new.self c.take_last_pair.result
taken g c =
    let p = c.take_last_pair.ensures in
    let q = c.take_last_child.ensures in
    end_off _ _ _ _ c.requires.inner c.requires.empty (sym q.pairs ∙ p.pairs) (q.children ∙ ap (λ cs. cs ++ c.take_last_child.result ∷ []) (sym p.children))

pub returns-clause-unbalanced : goal.returns-clause-unbalanced
returns-clause-unbalanced g c = (taken g (goal.at.returns-clause-unbalanced g c).After-take_last_pair).levels

pub returns-clause-pairs : goal.returns-clause-pairs
returns-clause-pairs g c = (taken g (goal.at.returns-clause-pairs g c).After-take_last_pair).pairs
