use Rattle.std.proofs.Common.{rules, ◌<◌, length, sym, subst}
use denote.Param.{param}
use Rattle.fc_tree_drain.proofs.Sizes.{front_fits, back_fits}
use Rattle.fc_tree_drain.proofs.drain.IntoPairs.next.Goals as goal

pub fill_front-requires : goal.fill_front-requires
fill_front-requires g c =
    let small = g.met.A.Handle.small in (
      front_fits (param 0 g.row.K) (param 1 g.row.V) g.row.A g.A.Allocator small,
      (back_fits (param 0 g.row.K) (param 1 g.row.V) g.row.A g.A.Allocator small, subst (λ xs. 0 < length xs) (sym c.self.view_is) c.requires),
    )

pub next-requires : goal.next-requires
next-requires g c = (search rules, c.fill_front.ensures.some)
