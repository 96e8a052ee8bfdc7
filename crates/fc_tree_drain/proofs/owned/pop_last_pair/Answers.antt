use Rattle.std.proofs.Common.{rules, arith, [], ◌∷◌, ◌++◌, sym, ap, ◌∙◌, append-nil}
use Rattle.fc_tree_drain.specs.Opened.{before_back}
use Rattle.fc_tree_drain.proofs.Opening.{top_some, IsGiven, given_leaf, given_last, given_under, kept_levels, gave_last, gave_last_alone}
use Rattle.fc_tree_drain.proofs.owned.pop_last_pair.Given as given
use Rattle.fc_tree_drain.proofs.owned.pop_last_pair.Goals as goal
use Rattle.fc_tree_drain.proofs.owned.pop_last_pair.Goals.{After-take_last_child-child}

-- what is left of the node, once its child is out too
left : (g : given.Over) (c : goal.After-take_last_child-child g)
    → IsGiven c.take_last_child-child.new.self c.take_last_child-child.result c.pop-node.new.self
left g c =
    let p = c.take_last_pair-pair.ensures in
    let q = c.take_last_child-child.ensures in
    given_last _ _ c.pop-node.result c.take_last_pair-pair.new.self _ _ _ c.requires.levels c.pop-node.ensures p.pairs p.children q.children q.pairs

pub take_last_pair-pair-requires : goal.take_last_pair-pair-requires
take_last_pair-pair-requires g c = top_some _ _ _ c.requires.levels c.pop-node.ensures

pub keep-requires : goal.keep-requires
keep-requires g c =
    (search rules, given_leaf _ _ _ _ c.requires.levels c.pop-node.ensures c.take_last_pair-pair.ensures.children (omega arith))

pub returns-then-child_count-eq0-clause-pairs : goal.returns-then-child_count-eq0-clause-pairs
returns-then-child_count-eq0-clause-pairs g c =
    let pair = c.take_last_pair-pair.result in
    let p = c.take_last_pair-pair.ensures in
    gave_last_alone c.args.stack.now _ c.keep.new.stack _ _ pair c.pop-node.ensures p.pairs p.children (omega arith) c.keep.ensures.back
    ∙ ap (λ zs. zs ++ pair ∷ []) (sym (append-nil _) ∙ ap (λ zs. before_back c.keep.new.stack ++ zs) (sym c.requires.used_up))

pub returns-then-child_count-eq0-clause-levels : goal.returns-then-child_count-eq0-clause-levels
returns-then-child_count-eq0-clause-levels g c =
    let n = c.take_last_pair-pair.new.self in
    kept_levels n _ _ (given_leaf _ _ _ n c.requires.levels c.pop-node.ensures c.take_last_pair-pair.ensures.children (omega arith)) c.keep.ensures.levels

pub keep-requires-2 : goal.keep-requires-2
keep-requires-2 g c = let i = left g (goal.at.keep-requires-2 g c).After-take_last_child-child in (search rules, (i.level, i.opened, i.rest))

pub open_last-requires : goal.open_last-requires
open_last-requires g c =
    (search rules, given_under _ _ _ _ (left g (goal.at.open_last-requires g c).After-take_last_child-child) c.keep-2.ensures.levels)

pub returns-clause-pairs : goal.returns-clause-pairs
returns-clause-pairs g c =
    let p = c.take_last_pair-pair.ensures in
    let q = c.take_last_child-child.ensures in
    let i = left g (goal.at.returns-clause-pairs g c).After-take_last_child-child in
    gave_last c.args.stack.now _ c.keep-2.new.stack _ _ _ _ _ c.take_last_pair-pair.result i c.pop-node.ensures p.pairs p.children q.children q.pairs
    c.keep-2.ensures.back c.open_last.ensures.pairs
