use Rattle.std.proofs.Common.{◌≡◌, ◌∙◌, sym, Some}
use Rattle.fc_base.specs.Ascending.{IsAscending}
use Rattle.fc_base.specs.Parts.{above}
use Rattle.fc_tree_search.specs.Neighbours.{not_above}
use Rattle.fc_map.specs.Entries.{entries}
use Rattle.fc_map.proofs.BesideFacts.{none_after, sides_joined}
use Rattle.fc_map.proofs.map.BTreeMap.locate_after.Goals as goal

pub returns-in-Some-clause-none : goal.returns-in-Some-clause-none
returns-in-Some-clause-none g c = λ no.
    let m = c.args.self.now in
    let is : Some c.in-Some.root ≡ m = sym (sym c.self.view_is ∙ c.in-Some.is) in
    let s = entries m in
    let q = g.Q.Query.sought c.args.key in
    let ascending : IsAscending g.K.Ord.cmp s = rw c.self.view_is at c.self.invariant.0 in
    let parts = sides_joined g.K.Ord.cmp g.Q.Query.order s q g.met.Q.Query.fits ascending in
    none_after (not_above g.Q.Query.order s q) (above g.Q.Query.order s q) s parts (rw (← is) (c.find_after.ensures.place.1 no))
