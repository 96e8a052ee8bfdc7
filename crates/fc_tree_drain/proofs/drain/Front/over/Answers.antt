use Rattle.std.proofs.Common.{◌++◌, sym, ap, ◌∙◌, append-nil}
use Rattle.fc_tree_node.specs.Node.{pairs_of, items_or_none}
use Rattle.fc_tree_node.specs.Tree.{entries}
use Rattle.fc_tree_drain.specs.Opened.{after_front}
use Rattle.fc_tree_drain.proofs.drain.Front.over.Goals as goal
use Rattle.fc_tree_drain.proofs.drain.Front.over.Goals.{in-Some, in_default}

pub returns : goal.returns
returns g c =
    let s = c.match-root in
    elim s.branch [
      | in-Some w ↦
          ap (λ r. items_or_none r ++ after_front s.nodes) w.run-is ∙ ap (λ n. items_or_none w.open_first.new.run ++ after_front n) w.nodes-is
          ∙ w.open_first.ensures.pairs ∙ ap (λ n. pairs_of w.in-Some.root ++ after_front n) c.new-nodes.ensures
          ∙ append-nil (pairs_of w.in-Some.root) ∙ sym (ap entries w.in-Some.is)
      | in_default w ↦
          ap (λ r. items_or_none r ++ after_front s.nodes) w.run-is ∙ ap after_front w.nodes-is ∙ ap after_front c.new-nodes.ensures
          ∙ sym (ap entries w.in_default.is)
    ]
