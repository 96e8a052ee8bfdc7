-- `Cells` as a type that may hold the type that holds it.
use Rattle.std.specs.Prelude.{List, [], Option}
use mathlib.Core.Path.{refl, sym}
use mathlib.Core.Former.{Former, this, const, pair, list, via}
use base.Stored.{code_map, Coded-set}
use denote.RattleType.{RattleType}
use denote.HoleLaws.{Alike}
use denote.HolePlaces.{Recodes, struct_places, laid}
use denote.Hole.Fix.{over}
use denote.Param.Weighed.{Weighed, w_list}
use denote.Model.Placed.{view_places}
use Rattle.core.specs.declared.alloc.Allocator.{Ghosts}
use Rattle.std.specs.Coded.{coded_option}
use Rattle.fc_tree_slots.specs.formers.Maybe.{maybe, w_maybe}
use Rattle.fc_tree_slots.specs.formers.raw.Row as row
use Rattle.fc_tree_slots.specs.declared.cells.Cells.TheInside.{Inside}
use Rattle.fc_tree_slots.specs.declared.cells.Cells.TheView.{view, invariant}
use Rattle.fc_tree_slots.specs.contracts.cells.Cells as C
use Rattle.fc_tree_slots.specs.contracts.cells.Cells.TheInside as I

abbrev pub the_former : Former {0} → Type 0 → Former {0}
the_former g Z = list (maybe g)

abbrev pub the_weighed : {g : Former {0}} → Weighed g → (Z : Type 0) → Weighed (the_former g Z)
the_weighed w Z = w_list (w_maybe w)

pub the_empty : (Z : Type 0) → Z → List (Option ⊥)
the_empty Z z = []

abbrev fields : Type 0 → Former {0}
fields Z = via (pair (row.the_former this Z) (const Z)) (λ X. Inside X Z) (λ X a. (a.row, a.alloc)) (λ X v. record { row = v.0; alloc = v.1 }) (λ X a. refl) (λ X v. refl)

module _ (Z : RattleType) (G : Ghosts Z.Denot) (R S : RattleType) (h : R.Denot → S.Denot) where
  pub the_places : Alike R S h → Alike (C.the_row R Z G) (C.the_row S Z G) ((the_former this Z.Denot).map R.Denot S.Denot h)
  the_places a = view_places (fields Z.Denot) (list (maybe this)) (λ X. view X Z.Denot G) (λ X Y k u. refl) (λ X u. refl) R.Denot S.Denot h (C.the_row R Z G).coded (C.the_row S Z G).coded
      (invariant R.Denot Z.Denot G) (invariant S.Denot Z.Denot G) (λ u. Coded-set Z.coded _ _) (λ u. Coded-set Z.coded _ _) (λ u e. e) (λ u e. e)
      (over (I.the_row R Z G)) (over (I.the_row S Z G))
      (struct_places (I.the_type R Z G) (I.the_type S Z G) ((row.the_former this Z.Denot).map R.Denot S.Denot h, (λ n. n, tt)) _ (λ d. refl) refl
      (laid _ _ _ (row.the_places Z G R S h a), ((refl, (λ n. refl, λ n. refl)), tt)))

  pub the_codes_placed : Recodes R S h → Recodes (C.the_row R Z G) (C.the_row S Z G) ((the_former this Z.Denot).map R.Denot S.Denot h)
  the_codes_placed e d = sym (code_map (coded_option R.coded).code (coded_option S.coded).code ((maybe this).map R.Denot S.Denot h) (row.some_same Z G R S h e) d)
