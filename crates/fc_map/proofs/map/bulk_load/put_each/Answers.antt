use Rattle.std.proofs.Common.{◌≡◌, ◌∷◌, [], ◌++◌, length, rules, sym, ap, subst, ◌∙◌, append_assoc, append-nil}
use Rattle.std.proofs.lemmas.List.{nil_from_length}
use Rattle.std.specs.Vec.Iter.{into_iter_items}
use Rattle.fc_base.specs.Extended.{extended, IsExtendedUpTo}
use Rattle.fc_tree_append.proofs.MergedFacts.{moved_on}
use Rattle.fc_tree_append.proofs.StableLaws.{extended_more}
use Rattle.fc_map.proofs.ExtendFacts.{up_to}
use Rattle.fc_map.proofs.OpenFacts.{some_item}
use Rattle.fc_map.proofs.map.bulk_load.put_each.Goals as goal

pub loop-key-preserved : goal.loop-key-preserved
loop-key-preserved g c =
    let done = c.loop-key.invariant in
    let next = c.in-Some.ensures.steps.0 in
    let all = moved_on c.args.items.items c.loop-key.yielded (c.in-Some.key, c.in-Some.value) _ _ done.all next in
    record {
      all = all;
      made = extended_more g.K.Ord.cmp c.args.placed.now.pairs c.loop-key.yielded c.loop-key.placed.pairs _ c.in-Some.key c.in-Some.value
          done.made c.in-Ok.ensures.put;
      none = λ none. absurd (some_item c.loop-key.yielded (c.in-Some.key, c.in-Some.value) _ (sym none ∙ all));
    }

pub returns-in-Err-clause-error : goal.returns-in-Err-clause-error
returns-in-Err-clause-error g c rest =
    let cmp = g.K.Ord.cmp in
    let old = c.args.placed.now.pairs in
    let done = c.loop-key.invariant in
    let refusal = c.in-Err.ensures in
    let item : g.row.K.Denot × g.row.V.Denot = (c.in-Some.key, c.in-Some.value) in
    let left = into_iter_items c.next.new.self in
    let all = moved_on c.args.items.items c.loop-key.yielded item _ left done.all c.in-Some.ensures.steps.0 in
    let upto = up_to cmp old c.loop-key.yielded c.loop-key.placed.pairs item c.in-Err.error done.made refusal.new_key refusal.error (left ++ rest) in
    subst (λ m. IsExtendedUpTo cmp old (c.args.items.items ++ rest) m c.in-Err.error) (sym refusal.unchanged)
    (subst (λ l. IsExtendedUpTo cmp old l c.loop-key.placed.pairs c.in-Err.error)
    (sym (ap (λ l. l ++ rest) all ∙ append_assoc (c.loop-key.yielded ++ item ∷ []) left rest)) upto)

pub returns-clause-all : goal.returns-clause-all
returns-clause-all g c =
    let left = into_iter_items c.loop-key.key-iterator in
    let none : length left ≡ 0 = search rules in
    let done = c.loop-key.invariant.all ∙ ap (λ l. c.loop-key.yielded ++ l) (nil_from_length left none) ∙ append-nil c.loop-key.yielded in
    c.loop-key.invariant.made ∙ ap (extended g.K.Ord.cmp c.args.placed.now.pairs) (sym done)

pub returns-in-Err-clause-no_request : goal.returns-in-Err-clause-no_request
returns-in-Err-clause-no_request g c none =
    let all = moved_on c.args.items.items c.loop-key.yielded (c.in-Some.key, c.in-Some.value) _ _ c.loop-key.invariant.all c.in-Some.ensures.steps.0 in
    absurd (some_item c.loop-key.yielded (c.in-Some.key, c.in-Some.value) _ (sym none ∙ all))
