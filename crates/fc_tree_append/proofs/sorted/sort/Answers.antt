use Rattle.std.proofs.Common.{ap}
use Rattle.std.specs.Ordering.{is_lt}
use Rattle.std.proofs.lemmas.List.Sorted.{ranks_by, answers_always}
use Rattle.fc_tree_append.proofs.MergedFacts.{rising_from, told_ok}
use Rattle.fc_tree_append.proofs.StableLaws.{extended_stable}
use Rattle.fc_tree_append.proofs.sorted.sort.Goals as goal

pub returns-clause-rising : goal.returns-clause-rising
returns-clause-rising g c h =
    let sorted = told_ok c.sort_by.result c.is_ok.result c.is_ok.ensures.value h c.sort_by.ensures.sorted in
    let ranks = ranks_by g.met.K.Ord.total (λ (e : g.row.K.Denot × g.row.V.Denot). e.0) in
    rising_from g.K.Ord.cmp g.met.K.Ord.total c.sort_by.new.self.items (sorted _ ranks (answers_always _ _ _ (λ f a r f' k. ap is_lt k.met)))

pub returns-clause-same : goal.returns-clause-same
returns-clause-same g c h s a =
    let ranks = ranks_by g.met.K.Ord.total (λ (e : g.row.K.Denot × g.row.V.Denot). e.0) in
    extended_stable g.K.Ord.cmp s c.args.items.now.items c.sort_by.new.self.items g.met.K.Ord.total a
    (c.sort_by.ensures.stable _ ranks (answers_always _ _ _ (λ f a r f' k. ap is_lt k.met)))
