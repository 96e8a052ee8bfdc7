use Rattle.std.proofs.Common.{sym, ap, ◌∙◌}
use Rattle.std.specs.Prelude.{fold}
use Rattle.std.specs.Hash.{Alike}
use Rattle.std.specs.List.{flat_map}
use Rattle.fc_map.specs.Compare.{pair_input}
use Rattle.fc_map.specs.CompareLaws.{pairs_Alike}
use Rattle.fc_map.specs.Entries.{entries}
use Rattle.callers_of_map.proofs.compare.feed_both.Goals as goal

pub returns : goal.returns
returns g c t =
    let W = g.H.Hasher.write in
    let keys : Alike g.K.PartialEq.eq g.K.Hash.hash_input = record { fed = g.met.K.Hash.respects_eq } in
    let values : Alike g.V.PartialEq.eq g.V.Hash.hash_input = record { fed = g.met.V.Hash.respects_eq } in
    let same = (pairs_Alike keys values).fed (entries c.args.map.now) (entries c.args.other.now) (sym c.eq.ensures ∙ t) in
    c.hash.ensures ∙ ap (fold W c.args.hasher.now) same
    ∙ ap (λ s. fold W s (flat_map (pair_input g.K.Hash.hash_input g.V.Hash.hash_input) (entries c.args.other.now))) c.requires ∙ sym c.hash-2.ensures
