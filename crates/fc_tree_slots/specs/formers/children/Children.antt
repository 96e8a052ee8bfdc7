-- `Children` as a type that may hold the type that holds it.
use mathlib.Core.Path.{◌≡◌, refl, sym}
use mathlib.Core.List.{List, []}
use mathlib.Core.Former.{Former, this, list, via, children}
use base.Stored.{code_map}
use denote.Param.{number}
use denote.RattleType.{RattleType}
use denote.HoleLaws.{Alike}
use denote.HolePlaces.{Recodes, struct_places, laid}
use denote.Hole.Carrier.{listed, list-listed}
use denote.Hole.Fix.{over}
use denote.Param.Weighed.{Weighed, w_list}
use denote.Model.Placed.{view_places}
use Rattle.core.specs.declared.alloc.Allocator.{Ghosts}
use Rattle.fc_base.specs.Sizes.{most_children}
use Rattle.fc_tree_slots.specs.formers.slots.Slots as slots
use Rattle.fc_tree_slots.specs.declared.children.Children.TheInside.{Inside}
use Rattle.fc_tree_slots.specs.declared.children.Children.TheView.{view, invariant}
use Rattle.fc_tree_slots.specs.contracts.children.Children as C
use Rattle.fc_tree_slots.specs.contracts.children.Children.TheInside as I

abbrev pub the_former : Former {0} → Type 0 → Former {0}
the_former g Z = list g

abbrev pub the_weighed : {g : Former {0}} → Weighed g → (Z : Type 0) → Weighed (the_former g Z)
the_weighed w Z = w_list w

pub the_empty : (Z : Type 0) → Z → List ⊥
the_empty Z z = []

abbrev pub the_items : (Z X : Type 0) → List X → List X
the_items Z X d = d

pub the_items_listed : (Z X : Type 0) (d : List X) → listed _ (children (the_former this Z) X d) ≡ the_items Z X d
the_items_listed Z X d = list-listed X d

abbrev fields : Type 0 → Former {0}
fields Z = via (slots.the_former this most_children Z) (λ X. Inside X Z) (λ X a. a.slots) (λ X v. record { slots = v }) (λ X a. refl) (λ X v. refl)

module _ (Z : RattleType) (G : Ghosts Z.Denot) (R S : RattleType) (h : R.Denot → S.Denot) where
  abbrev z : Type 0
  z = Z.Denot

  pub the_places : Alike R S h → Alike (C.the_row R Z G) (C.the_row S Z G) ((the_former this z).map R.Denot S.Denot h)
  the_places a = view_places (fields z) (list this) (λ X. view X z G) (λ X Y k u. refl) (λ X u. refl) R.Denot S.Denot h (C.the_row R Z G).coded (C.the_row S Z G).coded
      (invariant R.Denot z G) (invariant S.Denot z G) (λ u p q. refl) (λ u p q. refl) (λ u e. tt) (λ u e. tt)
      (over (I.the_row R Z G)) (over (I.the_row S Z G))
      (struct_places (I.the_type R Z G) (I.the_type S Z G) ((slots.the_former this most_children z).map R.Denot S.Denot h, tt) _ (λ d. refl) refl (laid _ _ _ (slots.the_places (number most_children) Z G R S h a), tt))

  pub the_codes_placed : Recodes R S h → Recodes (C.the_row R Z G) (C.the_row S Z G) ((the_former this z).map R.Denot S.Denot h)
  the_codes_placed e d = sym (code_map R.coded.code S.coded.code h (λ x. sym (e x)) d)
