use Rattle.std.proofs.Common.{◌∙◌}
use Rattle.std.proofs.lemmas.List.Elements.{length_all_zip}
use Rattle.fc_map.proofs.map.BTreeMap.try_clone_asked.Goals as goal

pub invariant_of-result : goal.invariant_of-result
invariant_of-result g c = let v = c.in_ok-root.ensures in (v.order, v.sound, c.self.invariant.2 ∙ length_all_zip _ _ _ v.copied)
