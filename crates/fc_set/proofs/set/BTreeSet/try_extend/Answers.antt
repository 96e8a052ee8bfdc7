use Rattle.std.proofs.Common.{◌≡◌, ◌∷◌, ◌++◌, [], rules, sym, ap, ◌∙◌, subst}
use Rattle.fc_base.specs.Growth.{MayGrowRefuse}
use Rattle.fc_vec.proofs.ItemFacts.{yields_more}
use Rattle.fc_map.specs.Entries.{entries}
use Rattle.fc_set.specs.Items.{items, AreExtendedUpTo}
use Rattle.fc_set.proofs.ItemFacts.{keys, keys_length, with_item_keys, keys_none}
use Rattle.fc_set.proofs.ExtendFacts.{extended_more, stopped_at_last}
use Rattle.fc_set.proofs.set.BTreeSet.try_extend.Goals as goal

pub loop-item-preserved : goal.loop-item-preserved
loop-item-preserved g c =
    let old = entries c.self.inside.map in
    let is = ap items c.self.view_is ∙ c.loop-item.invariant.2 in
    let put_in = ap keys c.in-Ok.ensures.put ∙ sym (with_item_keys g.T.Ord.cmp old c.in-Some.item tt) in (
      search rules,
      search rules,
      extended_more g.T.Ord.cmp (items c.args.self.now) c.loop-item.yielded (keys old) (items c.put_next.new.map) c.in-Some.item is put_in,
    )

pub returns-in-Err-clause-error : goal.returns-in-Err-clause-error
returns-in-Err-clause-error g c =
    let cmp = g.T.Ord.cmp in
    let old = items c.args.self.now in
    let now = entries c.self.inside.map in
    let is = ap items c.self.view_is ∙ c.loop-item.invariant.2 in
    let refusal = c.in-Err.ensures in
    let item : g.row.T.Denot = c.in-Some.item in
    let all = c.loop-item.yielded ++ item ∷ [] in
    let taken = yields_more g.I.IntoIter.Iterator.next_gives c.into_iter-item-iterator.result c.loop-item.item-iterator c.next.new.self c.loop-item.yielded
    item c.loop-item.yielded_by c.in-Some.ensures.steps in
    let error = subst (λ n. MayGrowRefuse n c.in-Err.refused) (sym (keys_length now)) refusal.error in
    let stop = subst (λ m. (stop : AreExtendedUpTo cmp old all (items m) c.in-Err.refused) × (stop.rest ≡ [])) (sym refusal.unchanged)
    (stopped_at_last cmp old c.loop-item.yielded (keys now) item c.in-Err.refused is (keys_none cmp now item refusal.new_key) error) in
    (all, (c.into_iter-item-iterator.result, c.into_iter-item-iterator.ensures.into_iter_gives, c.next.new.self, taken), stop.0, stop.1)

pub returns-clause-all : goal.returns-clause-all
returns-clause-all g c = (
  c.loop-item.yielded,
  (
    c.into_iter-item-iterator.result,
    c.into_iter-item-iterator.ensures.into_iter_gives,
    (c.next.new.self, (c.loop-item.item-iterator, c.loop-item.yielded_by, c.in-None.ensures.steps)),
  ),
  c.loop-item.invariant.2,
)
