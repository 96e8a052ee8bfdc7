-- The table of commands on sets computes to its answers.
use Rattle.std.proofs.Common.{◌≡◌, ℕ, List, [], ◌∷◌, refl, Some, None, true, false}
use Rattle.std.specs.Ordering.{nat_cmp}
use Rattle.std.specs.declared.cmp.Ordering.{Ordering}
use Rattle.std.specs.declared.cmp.Ordering.TheVariants.{Less}
use Rattle.std.specs.declared.ops.Bound.TheVariants.{Included, Excluded, Unbounded}
use Rattle.fc_base.specs.declared.try_reserve_error.TryReserveError.{TryReserveError}
use Rattle.fc_lines.specs.declared.command.End.TheVariants.{Front, Back}
use Rattle.fc_lines.specs.declared.command.SetOp.TheVariants.{Difference, SymmetricDifference, Intersection, Union}
use Rattle.fc_command.specs.declared.command.kinds.SetCommand.TheVariants.{AddItem, ReplaceItem, TakeItem, RemoveItem, SetAppend, SetSplitOff, SetExtend}
use Rattle.fc_command.specs.declared.command.kinds.SetCommand.TheVariants.{SetWalk, List as ListItems, Keep, IsDisjoint, IsSubset, IsSuperset, SetCmp}
use Rattle.fc_lines.specs.declared.command.Reply.TheVariants.{Done, Flag, Key, Keys, Order, BadRange}
use Rattle.fc_command.specs.SetStep.{answer_on_sets, MayRefuseOnSets, MayStopOnSets}

abbrev three : List ℕ
three = 3 ∷ 5 ∷ 8 ∷ []

-- One item at a time, both sets, and walks.
set_answers : (answer_on_sets {V = ℕ} nat_cmp (AddItem 4) three [] ≡ record { m = 3 ∷ 4 ∷ 5 ∷ 8 ∷ []; o = []; reply = Flag true })
    × (answer_on_sets {V = ℕ} nat_cmp (AddItem 5) three [] ≡ record { m = three; o = []; reply = Flag false })
    × (answer_on_sets {V = ℕ} nat_cmp (ReplaceItem 5) three [] ≡ record { m = three; o = []; reply = Key (Some 5) })
    × (answer_on_sets {V = ℕ} nat_cmp (ReplaceItem 4) three [] ≡ record { m = 3 ∷ 4 ∷ 5 ∷ 8 ∷ []; o = []; reply = Key None })
    × (answer_on_sets {V = ℕ} nat_cmp (TakeItem 5) three [] ≡ record { m = 3 ∷ 8 ∷ []; o = []; reply = Key (Some 5) })
    × (answer_on_sets {V = ℕ} nat_cmp (RemoveItem 4) three [] ≡ record { m = three; o = []; reply = Flag false })
    × (answer_on_sets {V = ℕ} nat_cmp SetAppend three (2 ∷ 5 ∷ []) ≡ record { m = 2 ∷ 3 ∷ 5 ∷ 8 ∷ []; o = []; reply = Done })
    × (answer_on_sets {V = ℕ} nat_cmp (SetSplitOff 5) three (2 ∷ []) ≡ record { m = 3 ∷ []; o = 5 ∷ 8 ∷ []; reply = Done })
    × (answer_on_sets {V = ℕ} nat_cmp (SetExtend (5 ∷ 4 ∷ 4 ∷ [])) three [] ≡ record { m = 3 ∷ 4 ∷ 5 ∷ 8 ∷ []; o = []; reply = Done })
    × (answer_on_sets {V = ℕ} nat_cmp (SetWalk (Included 4) Unbounded (Back ∷ Front ∷ Back ∷ [])) three []
    ≡ record { m = three; o = []; reply = Keys (Some 8 ∷ Some 5 ∷ None ∷ []) })
    × (answer_on_sets {V = ℕ} nat_cmp (SetWalk (Excluded 5) (Excluded 5) (Front ∷ [])) three [] ≡ record { m = three; o = []; reply = BadRange })
set_answers = (refl, refl, refl, refl, refl, refl, refl, refl, refl, refl, refl)

abbrev low : List ℕ
low = 1 ∷ 2 ∷ 3 ∷ []

abbrev high : List ℕ
high = 2 ∷ 3 ∷ 4 ∷ []

-- Operations on two sets.
operation_answers : (answer_on_sets {V = ℕ} nat_cmp (ListItems Difference) low high ≡ record { m = low; o = high; reply = Keys (Some 1 ∷ []) })
    × (answer_on_sets {V = ℕ} nat_cmp (ListItems SymmetricDifference) low high ≡ record { m = low; o = high; reply = Keys (Some 1 ∷ Some 4 ∷ []) })
    × (answer_on_sets {V = ℕ} nat_cmp (Keep Intersection) low high ≡ record { m = 2 ∷ 3 ∷ []; o = high; reply = Done })
    × (answer_on_sets {V = ℕ} nat_cmp (Keep Union) low high ≡ record { m = 1 ∷ 2 ∷ 3 ∷ 4 ∷ []; o = high; reply = Done })
    × (answer_on_sets {V = ℕ} nat_cmp IsDisjoint low high ≡ record { m = low; o = high; reply = Flag false })
    × (answer_on_sets {V = ℕ} nat_cmp IsSubset (2 ∷ 3 ∷ []) high ≡ record { m = 2 ∷ 3 ∷ []; o = high; reply = Flag true })
    × (answer_on_sets {V = ℕ} nat_cmp IsSuperset low high ≡ record { m = low; o = high; reply = Flag false })
    × (answer_on_sets {V = ℕ} nat_cmp SetCmp low high ≡ record { m = low; o = high; reply = Order Less })
operation_answers = (refl, refl, refl, refl, refl, refl, refl, refl)

-- An extension can be read item by item: each is put in as it is added, and the one where it stops may be refused as it is there.
module _ {K : Type 0} (V : Type 0) (cmp : K → K → Ordering) (may_refuse : K → TryReserveError → Type 0) (m o : List K) where
  put_in_turn : (k : K) (more : List K) → answer_on_sets {V = V} cmp (SetExtend (k ∷ more)) m o
      ≡ answer_on_sets {V = V} cmp (SetExtend more) (answer_on_sets {V = V} cmp (AddItem k) m o).m o
  put_in_turn k more = refl

  stopped_in_turn : (more m' : List K) (e : TryReserveError) (s : MayStopOnSets cmp (SetExtend more) m m' e)
      → (m' ≡ (answer_on_sets {V = V} cmp (SetExtend s.front) m o).m) × MayRefuseOnSets cmp may_refuse (AddItem s.item) m' o e
  stopped_in_turn more m' e s = (s.put_in, (s.new_item, s.error))
