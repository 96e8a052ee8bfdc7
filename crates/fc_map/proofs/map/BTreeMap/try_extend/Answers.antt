use Rattle.std.proofs.Common.{◌≡◌, ◌∷◌, ◌++◌, [], rules, sym, subst}
use Rattle.fc_base.specs.Extended.{IsExtendedUpTo}
use Rattle.fc_map.specs.Entries.{entries}
use Rattle.fc_vec.proofs.ItemFacts.{yields_more}
use Rattle.fc_tree_append.proofs.StableLaws.{extended_more}
use Rattle.fc_map.proofs.ExtendFacts.{stopped_at_last}
use Rattle.fc_map.proofs.map.BTreeMap.try_extend.Goals as goal

pub loop-key-preserved : goal.loop-key-preserved
loop-key-preserved g c = (
  search rules,
  search rules,
  extended_more g.K.Ord.cmp (entries c.args.self.now) c.loop-key.yielded (entries c.loop-key.self) (entries c.put_next.new.self) c.in-Some.key
      c.in-Some.value c.loop-key.invariant.2 c.in-Ok.ensures.put,
)

pub returns-in-Err-clause-error : goal.returns-in-Err-clause-error
returns-in-Err-clause-error g c =
    let cmp = g.K.Ord.cmp in
    let old = entries c.args.self.now in
    let refusal = c.in-Err.ensures in
    let item : g.row.K.Denot × g.row.V.Denot = (c.in-Some.key, c.in-Some.value) in
    let all = c.loop-key.yielded ++ item ∷ [] in
    let taken = yields_more g.I.IntoIter.Iterator.next_gives c.into_iter-key-iterator.result c.loop-key.key-iterator c.next.new.self c.loop-key.yielded item
    c.loop-key.yielded_by c.in-Some.ensures.steps in
    let stop = subst (λ m. (stop : IsExtendedUpTo cmp old all (entries m) c.in-Err.refused) × (stop.rest ≡ [])) (sym refusal.unchanged)
    (stopped_at_last cmp old c.loop-key.yielded (entries c.loop-key.self) item c.in-Err.refused c.loop-key.invariant.2 refusal.new_key refusal.error) in
    (all, (c.into_iter-key-iterator.result, c.into_iter-key-iterator.ensures.into_iter_gives, c.next.new.self, taken), stop.0, stop.1)
