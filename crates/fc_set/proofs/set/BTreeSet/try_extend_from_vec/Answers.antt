use Rattle.std.proofs.Common.{◌≡◌, sym, ap, subst, ◌∙◌}
use Rattle.std.specs.Prelude.{OnOk}
use Rattle.fc_map.specs.Entries.{entries}
use Rattle.fc_set.specs.Items.{items, extended_items}
use Rattle.fc_set.proofs.ItemFacts.{keys, ascending_keys}
use Rattle.fc_set.proofs.ExtendFacts.{keys_extended}
use Rattle.fc_set.proofs.set.BTreeSet.try_extend_from_vec.Goals as goal
use Rattle.fc_set.proofs.set.BTreeSet.try_extend_from_vec.Goals.{in-Ok, in-Err}

pub returns-clause-all : goal.returns-clause-all
returns-clause-all g c =
    let cmp = g.T.Ord.cmp in
    let old = entries c.self.inside.map in
    let new = items c.try_extend_from_vec.new.self in
    let all = new ≡ extended_items cmp (items c.args.self.now) c.args.given.items in
    elim c.match-try_extend_from_vec.branch [
      | in-Ok w ↦ subst (λ r. OnOk r all) (sym w.result-is)
          (ap keys w.in-Ok.ensures.all ∙ keys_extended cmp old c.pair_up.new.pairs.items ∙ ap (extended_items cmp (keys old)) c.pair_up.ensures.pairs
          ∙ ap (λ s. extended_items cmp (items s) c.args.given.items) c.self.view_is)
      | in-Err w ↦ subst (λ r. OnOk r all) (sym w.result-is) tt
    ]

pub returns-clause-ascending : goal.returns-clause-ascending
returns-clause-ascending g c = ascending_keys g.T.Ord.cmp _ c.try_extend_from_vec.ensures.ascending
