-- What the contracts of an entry whose insertion is ready cite.
use Rattle.std.specs.Prelude.{◌≡◌, List, ◌∷◌, ◌++◌, Result}
use Rattle.std.specs.Borrow.{Fml, RattleType, MutBor, LendsSoOk, RestsIfErr}
use Rattle.core.specs.declared.alloc.Allocator.{Ghosts}
use Rattle.std.specs.declared.alloc.Global.{Global}
use Rattle.std.specs.contracts.alloc.Global as global
use Rattle.std.specs.contracts.impls.GlobalAllocator.TheImpl.{ghosts}
use Rattle.std.specs.declared.cmp.Ord as ord
use Rattle.std.specs.declared.cmp.PartialEq as eq
use Rattle.std.specs.declared.cmp.PartialOrd as partial
use Rattle.fc_tree_node.specs.TreePlace.{before_gap_in, after_gap_in}
use Rattle.fc_map.specs.Entries.{Map, entries, IsSoundMap}
use Rattle.fc_map.specs.declared.map.entry.VacantEntry.{VacantEntry}
use Rattle.fc_map.specs.declared.map.entry.ready.ReadyEntry.{ReadyEntry}
use Rattle.fc_map.specs.declared.map.entry.ready.Nodes as nodes
use Rattle.fc_map.specs.contracts.map.BTreeMap.{the_row}

module _ {K V Z N : Type 0} {g : ord.Ghosts K} {g' : eq.Ghosts K} {g'' : partial.Ghosts K} {n : nodes.Ghosts N} where
  -- The reference to the map.
  abbrev pub ready_map_ref : ReadyEntry K V Z N g g' g'' n → MutBor (Map K V Z)
  ready_map_ref e = e.map

  -- The map, as the entry holds it.
  abbrev pub ready_map : ReadyEntry K V Z N g g' g'' n → Map K V Z
  ready_map e = e.map.now

  -- The key that is to be put in.
  abbrev pub ready_key : ReadyEntry K V Z N g g' g'' n → K
  ready_key e = e.key

  -- The pairs of the map, once the key is in its gap with the value v.
  abbrev pub ready_list_with : ReadyEntry K V Z N g g' g'' n → V → List (K × V)
  ready_list_with e v = before_gap_in e.map.now e.path ++ (e.key, v) ∷ after_gap_in e.map.now e.path

module _ (K V Z : RattleType) {N : Type 0} {g : ord.Ghosts K.Denot} {g' : eq.Ghosts K.Denot} {g'' : partial.Ghosts K.Denot} {n : nodes.Ghosts N} (heap : Ghosts Z.Denot) where
  -- Where r has no entry, the map after the vacant entry stays as it is.
  abbrev pub rests_if_not_ready_in : {E : Type 0} → VacantEntry K.Denot V.Denot Z.Denot g g' g'' → Result (ReadyEntry K.Denot V.Denot Z.Denot N g g' g'' n) E → Fml
  rests_if_not_ready_in e r = RestsIfErr (the_row K V Z g g' g'' heap) e.map (λ ready. ready.map.ghost_name) r (λ m. m ≡ e.map.now)

  -- Once the borrow r ends, the map's pairs are those with the last value written through r at the entry's key.
  abbrev pub ready_lends_in : {E : Type 0} → ReadyEntry K.Denot V.Denot Z.Denot N g g' g'' n → Result (MutBor V.Denot) E → Fml
  ready_lends_in e r = LendsSoOk (the_row K V Z g g' g'' heap) V e.map r (λ m w. (entries m ≡ ready_list_with e w) × IsSoundMap m) (λ m. m ≡ e.map.now)

-- The same of an entry of a map that takes its memory from `Global`.
module _ (K V : RattleType) {N : Type 0} {g : ord.Ghosts K.Denot} {g' : eq.Ghosts K.Denot} {g'' : partial.Ghosts K.Denot} {n : nodes.Ghosts N} where
  abbrev pub rests_if_not_ready : {E : Type 0} → VacantEntry K.Denot V.Denot Global g g' g'' → Result (ReadyEntry K.Denot V.Denot Global N g g' g'' n) E → Fml
  rests_if_not_ready e r = rests_if_not_ready_in K V global.the_row ghosts e r

  abbrev pub ready_lends : {E : Type 0} → ReadyEntry K.Denot V.Denot Global N g g' g'' n → Result (MutBor V.Denot) E → Fml
  ready_lends e r = ready_lends_in K V global.the_row ghosts e r
