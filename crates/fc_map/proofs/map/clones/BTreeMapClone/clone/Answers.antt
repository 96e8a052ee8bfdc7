use Rattle.std.proofs.Common.{◌∙◌, length, ap, sym}
use Rattle.std.proofs.lemmas.List.Elements.{length_all_zip}
use Rattle.fc_map.specs.Entries.{entries}
use Rattle.fc_map.proofs.map.clones.BTreeMapClone.clone.Goals as goal

pub invariant_of-result : goal.invariant_of-result
invariant_of-result g c =
    let v = c.in_ok-root.ensures in
    let walked = ap (λ m. length (entries m)) c.self.view_is ∙ sym (ap length c.iter.ensures.pairs) in
    (v.ascending, v.sound, c.self.invariant.2 ∙ walked ∙ length_all_zip _ _ _ v.cloned)
