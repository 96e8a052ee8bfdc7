use Rattle.std.proofs.Common.{◌∷◌, [], ◌-◌, ◌++◌, sym, ap, ◌∙◌, subst, arith, append_assoc, append-nil}
use Rattle.std.specs.Prelude.{take}
use Rattle.std.proofs.lemmas.List.{nil_from_length}
use Rattle.fc_tree_node.specs.Node.{own_pairs}
use Rattle.fc_tree_drain.specs.Opened.{before_back}
use Rattle.fc_tree_build.specs.Built.{last_pairs}
use Rattle.fc_tree_build.specs.Spine.{IsLastPair}
use Rattle.fc_tree_build.proofs.Ends.{last_taken}
use Rattle.fc_tree_build.proofs.GrownFacts.{all_pairs}
use Rattle.fc_tree_build.proofs.growing.GrowingBuilder.last.Goals as goal

pub returns-then-len-gt0 : goal.returns-then-len-gt0
returns-then-len-gt0 g c =
    let v = c.len.ensures.value in
    let i = c.len-then-len-gt0.result - 1 in
    let own = own_pairs c.in-Some.leaf in
    let p = c.pair.ensures in
    let s = before_back c.self.inside.spine in
    let pairs = ap (λ v. v.pairs) c.self.view_is in
    let l = last_taken (own_pairs c.in-Some.leaf) (c.len-then-len-gt0.result - 1) c.pair.result.now (omega arith) p in (
      s ++ take i own,
      sym pairs ∙ ap (λ o. s ++ last_pairs o) c.in-Some.is ∙ ap (λ ps. s ++ ps) l ∙ sym (append_assoc s (take i own) (c.pair.result.now ∷ [])),
    )

pub returns : goal.returns
returns g c =
    let s = before_back c.self.inside.spine in
    let none = nil_from_length (own_pairs c.in-Some.leaf) (omega arith) in
    let all = sym (append-nil s) ∙ ap (λ ps. s ++ ps) (sym none) ∙ all_pairs _ _ c.self.inside.spine _ c.in-Some.is c.self.view_is in
    subst (λ zs. IsLastPair zs c.last_of.result) all c.last_of.ensures
