use Rattle.std.proofs.Common.{◌≡◌, ap, ◌∙◌, rules}
use Rattle.fc_map.specs.Entries.{entries}
use Rattle.fc_map.specs.Writing.{set_value, wrote_first}
use Rattle.callers_of_map.proofs.iter_mut.write_first.Goals as goal

pub returns-in-Some : goal.returns-in-Some
returns-in-Some g c =
    let v = c.args.value in
    let n = c.next.follows.lender v in
    let h = rw c.in-Some.is at (c.next.follows.holds v) in
    let same = h.0 in
    let e : entries n.map.now ≡ set_value (entries c.args.map.now) 0 v = ap (λ t. t.list) (h.1 ∙ ap (λ t. wrote_first t v) c.iter_mut-walk.ensures.start) in
    search rules
