use Rattle.std.proofs.Common.{sym, rules, ◌∙◌}
use Rattle.std.proofs.lemmas.Result.{err_from_is_err_and}
use Rattle.fc_base.proofs.AscendingFacts.{is_equal}
use Rattle.fc_tree_node.specs.Node.{pairs_of}
use Rattle.fc_tree_copy.proofs.TreeFacts.{ascending_copied, sound_copied, has_pair}
use Rattle.fc_tree_copy.proofs.tree.try_copy_tree.Goals as goal

pub returns-in_err-copy-clause-copied : goal.returns-in_err-copy-clause-copied
returns-in_err-copy-clause-copied g c =
    let p = err_from_is_err_and c.from_residual.result c.from_residual.ensures.1 in
    let sound = rw c.in-Some.is at c.requires.sound in
    let is = c.in_err-copy.ensures.error sound.0 sound.2.1 in
    rw p.1 (rw c.in-Some.is (has_pair c.in-Some.root sound, search (rules, p.2, is)))

pub returns-clause-order : goal.returns-clause-order
returns-clause-order g c =
    let source = c.in-Some.root in
    let copied = c.in_ok-copy.ensures.copied in
    let equal = λ (a : g.row.K.Denot) (b : g.row.K.Denot) (s : g.K.TryClone.same a b).
    is_equal (g.K.Ord.cmp a b) (sym (g.met.K.Ord.matches_eq a b) ∙ c.requires.copies.2 a b s) in
    ascending_copied g.K.Ord.cmp g.met.K.Ord.total g.K.TryClone.same g.V.TryClone.same equal (pairs_of source) (pairs_of c.in_ok-copy.copy) copied.pairs
    (rw c.in-Some.is at c.requires.order)

pub returns-clause-sound : goal.returns-clause-sound
returns-clause-sound g c = sound_copied _ c.in-Some.root c.in_ok-copy.copy c.in_ok-copy.ensures.copied (rw c.in-Some.is at c.requires.sound)
