use Rattle.std.proofs.Common.{◌≡◌, sym, subst, ◌∙◌}
use Rattle.fc_tree_node.specs.Node.{IsLevelled}
use Rattle.fc_tree_split.specs.Cut.{IsCutPathIn, IsCutInTwo}
use Rattle.fc_tree_split.proofs.Cuts.{root_sound, within_sound}
use Rattle.fc_tree_split.proofs.cutting.try_split.Goals as goal

pub cut-left-requires-clause-levels : goal.cut-left-requires-clause-levels
cut-left-requires-clause-levels g c =
    let r = root_sound _ _ (sym c.take.ensures.value ∙ c.in-Some-take.is) c.requires.sound in
    (r.0, r.2.1)

pub cut-left-requires-clause-path : goal.cut-left-requires-clause-path
cut-left-requires-clause-path g c = subst (IsCutPathIn c.args.path.now) (sym c.take.ensures.value ∙ c.in-Some-take.is) c.requires.path

pub cut-left-requires-clause-border : goal.cut-left-requires-clause-border
cut-left-requires-clause-border g c h l =
    let same : c.in-Some.whole ≡ c.in-Some-take.whole = cc (c.in-Some.is, c.take.ensures.value, c.in-Some-take.is) in
    c.in_ok-border.ensures.ok h (subst (IsLevelled h) (sym same) l)

pub returns-clause-pairs : goal.returns-clause-pairs
returns-clause-pairs g c =
    subst (λ o. IsCutInTwo c.args.path.now o c.cut-left.result.0 c.cut-left.result.1) (sym c.in-Some-take.is ∙ c.take.ensures.value) c.cut-left.ensures.pairs

pub returns-clause-sound : goal.returns-clause-sound
returns-clause-sound g c =
    let r = root_sound _ _ (sym c.take.ensures.value ∙ c.in-Some-take.is) c.requires.sound in
    let w = c.cut-left.ensures.levels r.0 r.2.1 in
    (within_sound r.0 _ r.1 w.0, within_sound r.0 _ r.1 w.1)
