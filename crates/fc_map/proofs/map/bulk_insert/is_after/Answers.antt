use Rattle.std.proofs.Common.{sym, ap, ◌∙◌}
use Rattle.std.specs.Ordering.{is_lt}
use Rattle.fc_map.specs.Entries.{entries}
use Rattle.fc_tree_build.proofs.Ends.{less_if}
use Rattle.fc_tree_build.proofs.OrderedFacts.{after}
use Rattle.fc_map.proofs.ExtendFacts.{none_beside, is_after_all}
use Rattle.fc_map.proofs.map.bulk_insert.is_after.Goals as goal

pub returns-in-Some-clause-after : goal.returns-in-Some-clause-after
returns-in-Some-clause-after g c h =
    after g.K.Ord.cmp c.args.tree.now.pairs c.in-Some.ensures.0 c.in-Some.last.now c.args.key.now g.met.K.Ord.total c.in-Some.ensures.1 c.requires.0
    (sym c.cmp.ensures ∙ less_if _ _ c.is_lt.ensures h)

pub returns-in-Some-clause-open : goal.returns-in-Some-clause-open
returns-in-Some-clause-open g c h =
    none_beside g.K.Ord.cmp c.args.tree.now.pairs (entries c.args.map.now) c.in-Some.ensures.0 c.in-Some.last.now c.requires c.in-Some.ensures.1

pub returns-in-None-clause-told : goal.returns-in-None-clause-told
returns-in-None-clause-told g c none all = c.is_empty.ensures.1 none

pub returns-in-Some-clause-told : goal.returns-in-Some-clause-told
returns-in-Some-clause-told g c none all =
    (is_after_all g.K.Ord.cmp c.args.tree.now.pairs c.in-Some.ensures.0 c.in-Some.last.now c.args.key.now c.is_lt.result g.met.K.Ord.total
    c.in-Some.ensures.1 c.requires.0 (c.is_lt.ensures ∙ ap is_lt c.cmp.ensures)).1 all
