use Rattle.std.proofs.Common.{◌∙◌, length, refl, sym, ap, arith}
use Rattle.std.specs.Option.{option_map}
use Rattle.std.specs.Prelude.{slice_set, slice_index_or}
use Rattle.fc_tree_node.specs.Node.{items_or_none}
use Rattle.fc_tree_node.proofs.Lent.{some_in}
use Rattle.fc_tree_node.proofs.lend.child_in.Goals as goal

pub content-requires : goal.content-requires
content-requires g c = some_in c.args.children.now c.args.index c.requires

pub get_mut-requires : goal.get_mut-requires
get_mut-requires g c = let same = ap (λ o. length (items_or_none o)) c.content.ensures.value in omega (arith, c.requires)

pub returns : goal.returns
returns g c = (
  (refl, λ w. ap (option_map (λ cs. slice_set cs c.args.index w)) (sym c.content.ensures.value)),
  record {
    writes_back = tt;
    value = c.get_mut.ensures.value ∙ ap (λ o. slice_index_or (items_or_none o) c.args.index c.get_mut.result.now) (sym c.content.ensures.value);
  },
)
