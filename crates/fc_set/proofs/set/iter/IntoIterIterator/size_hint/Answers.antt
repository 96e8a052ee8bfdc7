use Rattle.std.proofs.Common.{Some, ap, ◌∙◌, subst}
use Rattle.std.specs.Prelude.{IfSome}
use Rattle.std.specs.Iterator.{UpTo, at_most}
use Rattle.std.specs.Iterator.SizeHint.{IsWithinCount}
use denote.Builtin.{unit}
use denote.Param.{param}
use Rattle.fc_map_iter.proofs.WalkSizes.{walk_fits}
use Rattle.fc_map_iter.proofs.OwnedFacts.{many}
use Rattle.fc_set.proofs.set.iter.IntoIterIterator.size_hint.Goals as goal

pub size_hint-requires : goal.size_hint-requires
size_hint-requires g c = walk_fits (param 0 g.row.T) unit g.row.A g.A.Allocator g.met.A.Handle.small

pub returns-clause-lower : goal.returns-clause-lower
returns-clause-lower g c =
    let same = many (λ e. e.0) c.self.inside.pairs c.args.self.now c.self.view_is in
    subst (λ n. IsWithinCount c.size_hint.result.0 (at_most n)) same c.size_hint.ensures.lower

pub returns-clause-upper : goal.returns-clause-upper
returns-clause-upper g c =
    let same = many (λ e. e.0) c.self.inside.pairs c.args.self.now c.self.view_is in
    subst (λ n. IfSome c.size_hint.result.1 (UpTo (at_most n))) same c.size_hint.ensures.upper

pub returns-clause-exact : goal.returns-clause-exact
returns-clause-exact g c = c.size_hint.ensures.exact ∙ ap (λ n. (n, Some n)) (many (λ e. e.0) c.self.inside.pairs c.args.self.now c.self.view_is)
