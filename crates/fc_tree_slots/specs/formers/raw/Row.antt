-- `Row` as a type that may hold the type that holds it.
use Rattle.std.specs.Prelude.{◌≡◌, Option, Some, None}
use mathlib.Core.Path.{refl, sym, ap}
use mathlib.Core.Former.{Former, this, const, pair, list, via}
use base.Stored.{Gv, code_map, gcons, gnum}
use base.Fml.{fsep}
use denote.RattleType.{RattleType}
use denote.RawPtr.{Ptr}
use denote.Sharing.{beside}
use denote.HoleLaws.{Alike}
use denote.HolePlaces.{Recodes}
use denote.Param.Weighed.{Weighed, w_list}
use denote.Struct.Struct.{Struct}
use denote.Struct.Owning.{shape, to}
use Rattle.std.specs.Coded.{coded_option}
use Rattle.core.specs.declared.alloc.Allocator.{Ghosts}
use Rattle.fc_tree_slots.specs.formers.Maybe.{maybe, w_maybe}
use Rattle.fc_tree_slots.specs.formers.Placed.{own_placed, lent_placed}
use Rattle.fc_tree_slots.specs.declared.raw.Row.{Row}
use Rattle.fc_tree_slots.specs.contracts.raw.Row as P

abbrev parts : Former {0} → Type 0 → Former {0}
parts g Z = pair (const (Ptr × Z)) (list (maybe g))

abbrev pub the_former : Former {0} → Type 0 → Former {0}
the_former g Z = via (parts g Z) (λ X. Row (g.Of X) Z) (λ X r. ((r.start, r.alloc), r.held)) (λ X v. record { start = v.0.0; held = v.1; alloc = v.0.1 }) (λ X r. refl) (λ X v. refl)

abbrev pub the_weighed : {g : Former {0}} → Weighed g → (Z : Type 0) → Weighed (the_former g Z)
the_weighed w Z = let v = w_list (w_maybe w) in record { weight = λ X μ r. v.weight X μ r.held; puts = λ X μ r. v.puts X μ r.held }

second : {a b c rest : Gv} → a ≡ b → gcons c (gcons a rest) ≡ gcons c (gcons b rest)
second {c = c} {rest = rest} e = λ i. gcons c (gcons (e i) rest)

module _ (Z : RattleType) (G : Ghosts Z.Denot) (R S : RattleType) (h : R.Denot → S.Denot) where
  abbrev on : Row R.Denot Z.Denot → Row S.Denot Z.Denot
  on = (the_former this Z.Denot).map R.Denot S.Denot h

  pub the_places : Alike R S h → Alike (P.the_row R Z G) (P.the_row S Z G) on
  the_places a = record {
    mir_same = refl;
    own_same = λ r i vs. fsep ((Struct (shape (P.the_type R Z G))).own_val (to (P.the_type R Z G) r) vs) (own_placed R S h a (G.dealloc_token r.alloc) r.start r.held i);
    shr_same = λ r i b o. beside ((Struct (shape (P.the_type R Z G))).shr_at (to (P.the_type R Z G) r) b o) (lent_placed R S h a r.start r.held i);
  }

  pub some_same : Recodes R S h → (c : Option R.Denot) → (coded_option R.coded).code c ≡ (coded_option S.coded).code ((maybe this).map R.Denot S.Denot h c)
  some_same e None = refl
  some_same e (Some x) = ap (gcons (gnum 1)) (sym (e x))

  pub the_codes_placed : Recodes R S h → Recodes (P.the_row R Z G) (P.the_row S Z G) on
  the_codes_placed e r = second (sym (code_map (coded_option R.coded).code (coded_option S.coded).code ((maybe this).map R.Denot S.Denot h) (some_same e) r.held))
