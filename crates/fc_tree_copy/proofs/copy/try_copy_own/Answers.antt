use Rattle.std.proofs.lemmas.Bool.{false≢true}
use Rattle.fc_tree_copy.specs.Copy.{AreSame}
use Rattle.fc_tree_copy.proofs.CopyFacts.{inner_started}
use Rattle.fc_tree_copy.proofs.copy.try_copy_own.Goals as goal

pub returns-clause-copied : goal.returns-clause-copied
returns-clause-copied g c =
    inner_started (AreSame g.K.TryClone.same g.V.TryClone.same) c.args.node.now _ _ (λ l. false≢true (c.if-is_leaf.ensures.1 l)) c.in_ok-pairs.ensures.copied
    c.in_ok-try_new.ensures.empty
