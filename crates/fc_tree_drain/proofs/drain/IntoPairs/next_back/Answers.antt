use Rattle.std.proofs.Common.{rules, ◌<◌, ◌++◌, length, sym, ap, ◌∙◌, subst, append_assoc}
use denote.Param.{param}
use Rattle.fc_tree_drain.proofs.Sizes.{front_fits, back_fits}
use Rattle.fc_tree_drain.proofs.drain.IntoPairs.next_back.Goals as goal

pub fill_back-requires : goal.fill_back-requires
fill_back-requires g c =
    let small = g.met.A.Handle.small in (
      front_fits (param 0 g.row.K) (param 1 g.row.V) g.row.A g.A.Allocator small,
      (back_fits (param 0 g.row.K) (param 1 g.row.V) g.row.A g.A.Allocator small, subst (λ xs. 0 < length xs) (sym c.self.view_is) c.requires),
    )

pub next_back-requires : goal.next_back-requires
next_back-requires g c = (search rules, c.fill_back.ensures.some)

pub returns : goal.returns
returns g c =
    sym c.self.view_is ∙ sym c.fill_back.ensures.pairs ∙ ap (λ xs. c.fill_back.new.front ++ xs) c.next_back.ensures
    ∙ sym (append_assoc c.fill_back.new.front _ _)
