use Rattle.std.proofs.Common.{refl, ap, ◌∙◌, arith, get_or}
use Rattle.std.specs.Option.{option_map}
use Rattle.fc_tree_node.proofs.Gaps.{pair_more}
use Rattle.fc_tree_node.proofs.Ways.{place_way}
use Rattle.fc_tree_search.proofs.WrittenFacts.{own_there, lent_there, lent_written}
use Rattle.fc_tree_search.proofs.lend.value_at.Goals as goal

pub pairs_mut-requires : goal.pairs_mut-requires
pairs_mut-requires g c = record { way = (place_way c.args.way.now c.args.place c.args.root.now c.requires.place).0; bounded = c.requires.bounded }

pub get_mut-requires : goal.get_mut-requires
get_mut-requires g c = (
  omega (arith, g.met.A.Handle.small, g.met.A.Handle.plain),
  lent_there c.args.way.now c.args.place c.args.root.now _ c.requires.place c.pairs_mut.ensures.value,
)

pub returns : goal.returns
returns g c =
    let way = c.args.way.now in
    let p = c.args.place in
    let n = c.args.root.now in
    let e = c.get_mut.result.now in
    let there = (place_way way p n c.requires.place).1 in
    let is = c.pairs_mut.ensures.value in
    let read = c.get_mut.ensures.value in (
      (refl, λ w. lent_written way p n _ e w is there read),
      record {
        writes_back = tt;
        value = ap (option_map (λ x. x.1)) (pair_more way p n ∙ own_there _ p e there (read ∙ ap (λ qs. get_or qs p e) is));
      },
    )
