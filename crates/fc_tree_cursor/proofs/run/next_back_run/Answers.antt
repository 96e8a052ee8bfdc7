use Rattle.std.proofs.Common.{◌∷◌, ◌++◌, [], ap, ◌∙◌, append_assoc}
use Rattle.fc_tree_cursor.specs.Span.{between}
use Rattle.fc_tree_cursor.proofs.Betweens.{previous_between}
use Rattle.fc_tree_cursor.proofs.run.next_back_run.Goals as goal

pub returns-clause-pairs : goal.returns-clause-pairs
returns-clause-pairs g c =
    (previous_between c.args.root.now c.requires.sound c.args.front.now c.args.back.now c.requires.ends c.requires.some _ _ c.next_back_unchecked.ensures.gap
    c.next_back_unchecked.ensures.step c.next_back_unchecked.ensures.pair).1
    ∙ ap (λ xs. xs ++ c.next_back_unchecked.result.0.now ∷ []) c.take_last_of-has_met.ensures.run
    ∙ append_assoc (between c.args.root.now c.args.front.now c.take_last_of-has_met.new.back) c.take_last_of-has_met.result.0.now
    (c.next_back_unchecked.result.0.now ∷ [])
