use Rattle.std.proofs.Common.{◌∷◌, [], ◌++◌, refl, ap, ◌∙◌}
use Rattle.std.proofs.lemmas.Result.{on_ok_weaker}
use Rattle.fc_base.specs.Extended.{extended}
use Rattle.fc_map.proofs.LoadFacts.{all_loaded, all_gathered, one_if_ok, one_if_err, refused_before, refused_over}
use Rattle.fc_map.specs.BulkLoad.{loading}
use Rattle.fc_map.proofs.map.bulk_load.gather.Goals as goal

pub returns-in-Ok-put_gathered-clause-taken : goal.returns-in-Ok-put_gathered-clause-taken
returns-in-Ok-put_gathered-clause-taken g c =
    let all = c.in-Ok-put_gathered.ensures.all ∙ ap (extended g.K.Ord.cmp c.args.placed.now.pairs) c.in-Err.ensures.items in
    one_if_ok g.K.Ord.cmp c.try_put.result c.args.placed.now.pairs c.args.gathered.now.items c.put_gathered.new.placed.pairs c.args.item c.in-Err.back.value all
    c.in-Err.ensures.value_returned (loading c.try_put.new.self c.put_gathered.new.gathered.items 18446744073709551615)
    c.in-Ok-put_gathered.ensures.none c.try_put.ensures.put

pub returns-in-Ok-put_gathered-clause-error : goal.returns-in-Ok-put_gathered-clause-error
returns-in-Ok-put_gathered-clause-error g c =
    let all = c.in-Ok-put_gathered.ensures.all ∙ ap (extended g.K.Ord.cmp c.args.placed.now.pairs) c.in-Err.ensures.items in
    one_if_err g.K.Ord.cmp c.try_put.result c.args.placed.now.pairs c.args.gathered.now.items c.put_gathered.new.placed.pairs c.args.item
    c.in-Err.back.value all c.in-Err.ensures.value_returned c.try_put.new.self.pairs c.try_put.ensures.unchanged c.try_put.ensures.new_key
    c.try_put.ensures.error

pub returns-in-Err-put_gathered-clause-error : goal.returns-in-Err-put_gathered-clause-error
returns-in-Err-put_gathered-clause-error g c =
    refused_before g.K.Ord.cmp c.args.placed.now.pairs c.args.gathered.now.items c.push.new.self.items c.put_gathered.new.placed.pairs c.args.item
    c.in-Err-put_gathered.error c.in-Err.ensures.items c.in-Err-put_gathered.ensures.error

pub returns-then-len-lt-FEWEST-clause-taken : goal.returns-then-len-lt-FEWEST-clause-taken
returns-then-len-lt-FEWEST-clause-taken g c =
    all_gathered g.K.Ord.cmp c.args.placed.now.pairs (c.args.gathered.now.items ++ c.args.item ∷ [])
    (loading c.args.placed.now c.push.new.self.items c.args.single.now) refl c.in-Ok.ensures.items

pub returns-clause-taken : goal.returns-clause-taken
returns-clause-taken g c =
    let items = c.args.gathered.now.items ++ c.args.item ∷ [] in
    on_ok_weaker c.put_gathered-2.result (λ is. all_loaded g.K.Ord.cmp c.args.placed.now.pairs items
    (loading c.put_gathered-2.new.placed c.put_gathered-2.new.gathered.items c.args.single.now) c.put_gathered-2.ensures.none
    (is ∙ ap (extended g.K.Ord.cmp c.args.placed.now.pairs) c.in-Ok.ensures.items)) c.put_gathered-2.ensures.all

pub returns-clause-error : goal.returns-clause-error
returns-clause-error g c =
    refused_over g.K.Ord.cmp c.put_gathered-2.result c.args.placed.now.pairs c.args.placed.now.pairs (c.args.gathered.now.items ++ c.args.item ∷ [])
    c.push.new.self.items c.put_gathered-2.new.placed.pairs refl c.in-Ok.ensures.items c.put_gathered-2.ensures.error
