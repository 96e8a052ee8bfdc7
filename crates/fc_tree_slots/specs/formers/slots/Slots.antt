-- `Slots` as a type that may hold the type that holds it.
use Rattle.std.specs.Prelude.{◌≡◌, ℕ, true, false, List, [], ◌∷◌, map, Option, Some, None}
use mathlib.Core.Path.{refl, sym, ap, ◌∙◌}
use mathlib.Core.Former.{one_more, Former, this, const, pair, list, via, children}
use base.Stored.{code_map}
use denote.RattleType.{RattleType}
use denote.HoleLaws.{Alike}
use denote.HolePlaces.{Recodes, struct_places, laid}
use denote.Hole.Carrier.{listed, list-listed}
use denote.Hole.Fix.{over}
use denote.Param.Weighed.{Weighed, w_list}
use denote.Model.Placed.{held, view_places}
use denote.Param.{value_of}
use denote.Struct.Props.{props}
use Rattle.core.specs.declared.alloc.Allocator.{Ghosts}
use Rattle.fc_tree_slots.specs.formers.Maybe.{maybe}
use Rattle.fc_tree_slots.specs.Cells.{present, holds}
use Rattle.fc_tree_slots.specs.formers.cells.Cells as cells
use Rattle.fc_tree_slots.specs.declared.slots.Slots.TheInside.{Inside}
use Rattle.fc_tree_slots.specs.declared.slots.Slots.TheView.{view, invariant}
use Rattle.fc_tree_slots.specs.contracts.slots.Slots as C
use Rattle.fc_tree_slots.specs.contracts.slots.Slots.TheInside as I

abbrev pub the_former : Former {0} → ℕ → Type 0 → Former {0}
the_former g N Z = list g

abbrev pub the_weighed : {g : Former {0}} → Weighed g → (N : ℕ) (Z : Type 0) → Weighed (the_former g N Z)
the_weighed w N Z = w_list w

abbrev pub the_items : (N : ℕ) (Z X : Type 0) → List X → List X
the_items N Z X d = d

pub the_items_listed : (N : ℕ) (Z X : Type 0) (d : List X) → listed _ (children (the_former this N Z) X d) ≡ the_items N Z X d
the_items_listed N Z X d = list-listed X d

abbrev fields : ℕ → Type 0 → Former {0}
fields N Z = via (pair (cells.the_former this Z) (const ℕ)) (λ X. Inside X N Z) (λ X a. (a.cells, a.len)) (λ X v. record { cells = v.0; len = v.1 }) (λ X a. refl) (λ X v. refl)

module _ (X Y : Type 0) (h : X → Y) where
  abbrev on : Option X → Option Y
  on = (maybe this).map X Y h

  present-map : (cs : List (Option X)) → present (map on cs) ≡ map h (present cs)
  present-map [] = refl
  present-map (None ∷ cs) = present-map cs
  present-map (Some x ∷ cs) = ap (λ l. h x ∷ l) (present-map cs)

present-held : (X : Type 0) (cs : List (Option X)) → held (list this) X (present cs) ≡ held (list (maybe this)) X cs
present-held X [] = refl
present-held X (None ∷ cs) = present-held X cs
present-held X (Some x ∷ cs) = λ i. (one_more (present-held X cs i).0, (x, (present-held X cs i).1))

holds-on : (X Y : Type 0) (h : X → Y) (cs : List (Option X)) → map holds (map (on X Y h) cs) ≡ map holds cs
holds-on X Y h [] = refl
holds-on X Y h (None ∷ cs) = ap (λ l. false ∷ l) (holds-on X Y h cs)
holds-on X Y h (Some x ∷ cs) = ap (λ l. true ∷ l) (holds-on X Y h cs)

module _ (N Z : RattleType) (G : Ghosts Z.Denot) (R S : RattleType) (h : R.Denot → S.Denot) where
  abbrev n : ℕ
  n = value_of N

  abbrev z : Type 0
  z = Z.Denot

  pub the_places : Alike R S h → Alike (C.the_row R N Z G) (C.the_row S N Z G) ((the_former this n z).map R.Denot S.Denot h)
  the_places a = view_places (fields n z) (list this) (λ X. view X n z G) (λ X Y k u. present-map X Y k u.cells) (λ X u. present-held X u.cells) R.Denot S.Denot h
      (C.the_row R N Z G).coded (C.the_row S N Z G).coded
      (invariant R.Denot n z G) (invariant S.Denot n z G) (λ u. hlevel props) (λ u. hlevel props)
      (λ u e. (e.0, holds-on R.Denot S.Denot h u.cells ∙ e.1)) (λ u e. (e.0, sym (holds-on R.Denot S.Denot h u.cells) ∙ e.1))
      (over (I.the_row R N Z G)) (over (I.the_row S N Z G))
      (struct_places (I.the_type R N Z G) (I.the_type S N Z G) ((cells.the_former this z).map R.Denot S.Denot h, (λ k. k, tt)) _ (λ d. refl) refl
      (laid _ _ _ (cells.the_places Z G R S h a), ((refl, (λ k. refl, λ k. refl)), tt)))

  pub the_codes_placed : Recodes R S h → Recodes (C.the_row R N Z G) (C.the_row S N Z G) ((the_former this n z).map R.Denot S.Denot h)
  the_codes_placed e d = sym (code_map R.coded.code S.coded.code h (λ x. sym (e x)) d)
