-- The table of commands on maps computes to its answers.
use Rattle.std.proofs.Common.{◌≡◌, ◌⊎◌, ℕ, List, [], ◌∷◌, refl, Some, None}
use Rattle.std.specs.Ordering.{nat_cmp}
use Rattle.std.specs.declared.cmp.Ordering.{Ordering}
use Rattle.fc_base.specs.declared.try_reserve_error.TryReserveError.{TryReserveError}
use Rattle.std.specs.declared.ops.Bound.TheVariants.{Included, Excluded, Unbounded}
use Rattle.fc_lines.specs.declared.command.End.TheVariants.{Front, Back}
use Rattle.fc_command.specs.declared.command.kinds.MapCommand.TheVariants.{Insert, Get, Remove, Len as CountPairs, Walk, Write, Append, SplitOff}
use Rattle.fc_command.specs.declared.command.kinds.MapCommand.TheVariants.{TryClone, Extend, InsertBoth}
use Rattle.fc_lines.specs.declared.command.Reply.TheVariants.{Done, Value, Len, Pairs, BadRange, Both}
use Rattle.fc_command.specs.Step.{answer, MustRefuse, MayRefuseCommand, MayStop}
use Rattle.fc_map.specs.Writing.{wrote}

-- The answers to six commands, on the lists of two maps that are empty at first.
six_answers : (answer {V = ℕ} nat_cmp (Insert 37 1) [] [] ≡ record { m = (37, 1) ∷ []; o = []; reply = Value None })
    × (answer {V = ℕ} nat_cmp (Insert 37 2) ((37, 1) ∷ []) [] ≡ record { m = (37, 2) ∷ []; o = []; reply = Value (Some 1) })
    × (answer {V = ℕ} nat_cmp (Get 37) ((37, 2) ∷ []) [] ≡ record { m = (37, 2) ∷ []; o = []; reply = Value (Some 2) })
    × (answer {V = ℕ} nat_cmp CountPairs ((37, 2) ∷ []) [] ≡ record { m = (37, 2) ∷ []; o = []; reply = Len 1 })
    × (answer {V = ℕ} nat_cmp (Remove 37) ((37, 2) ∷ []) [] ≡ record { m = []; o = []; reply = Value (Some 2) })
    × (answer {V = ℕ} nat_cmp (Get 1) [] [] ≡ record { m = []; o = []; reply = Value None })
six_answers = (refl, refl, refl, refl, refl, refl)

abbrev three : List (ℕ × ℕ)
three = (3, 1) ∷ (5, 2) ∷ (8, 3) ∷ []

-- Walks from both ends that meet, bounds that are no range or hold nothing, and writes that change the value alone.
walk_answers : (answer nat_cmp (Walk (Included 4) (Included 8) (Back ∷ Front ∷ Front ∷ Back ∷ [])) three []
    ≡ record { m = three; o = []; reply = Pairs (Some (8, 3) ∷ Some (5, 2) ∷ None ∷ None ∷ []) })
    × (answer nat_cmp (Walk (Excluded 5) (Excluded 5) (Front ∷ [])) three [] ≡ record { m = three; o = []; reply = BadRange })
    × (answer nat_cmp (Walk (Included 5) (Excluded 5) (Front ∷ [])) three [] ≡ record { m = three; o = []; reply = Pairs (None ∷ []) })
    × (answer nat_cmp (Walk (Included 6) (Included 5) (Front ∷ [])) three [] ≡ record { m = three; o = []; reply = BadRange })
    × (answer nat_cmp (Write (Included 4) Unbounded ((Front, 9) ∷ [])) three [] ≡ record { m = (3, 1) ∷ (5, 9) ∷ (8, 3) ∷ []; o = []; reply = Len 1 })
    × (answer nat_cmp (Write Unbounded Unbounded ((Front, 10) ∷ (Back, 30) ∷ (Front, 20) ∷ (Back, 99) ∷ [])) three []
    ≡ record { m = (3, 10) ∷ (5, 20) ∷ (8, 30) ∷ []; o = []; reply = Len 3 })
    × (answer nat_cmp (Write (Excluded 5) (Excluded 5) ((Front, 9) ∷ [])) three [] ≡ record { m = three; o = []; reply = BadRange })
unfolding wrote
walk_answers = (refl, refl, refl, refl, refl, refl, refl)

-- Of equal keys an append takes the other map's pair; a split leaves the smaller keys; an extension writes over equal keys, in turn.
map_answers : (answer nat_cmp Append three ((2, 7) ∷ (5, 9) ∷ []) ≡ record { m = (2, 7) ∷ (3, 1) ∷ (5, 9) ∷ (8, 3) ∷ []; o = []; reply = Done })
    × (answer nat_cmp (SplitOff 5) three ((2, 7) ∷ []) ≡ record { m = (3, 1) ∷ []; o = (5, 2) ∷ (8, 3) ∷ []; reply = Done })
    × (answer nat_cmp TryClone three ((2, 7) ∷ []) ≡ record { m = three; o = three; reply = Done })
    × (answer nat_cmp (Extend ((5, 9) ∷ (4, 0) ∷ (4, 7) ∷ [])) three [] ≡ record { m = (3, 1) ∷ (4, 7) ∷ (5, 9) ∷ (8, 3) ∷ []; o = []; reply = Done })
map_answers = (refl, refl, refl, refl)

-- Each pair goes into its own map, and the old values are answered, that of the first map first.
both_answers : (answer {V = ℕ} nat_cmp (InsertBoth 1 2 5 9) [] ((5, 7) ∷ []) ≡ record { m = (1, 2) ∷ []; o = (5, 9) ∷ []; reply = Both None (Some 7) })
    × (answer {V = ℕ} nat_cmp (InsertBoth 5 4 6 8) ((5, 2) ∷ []) ((5, 7) ∷ [])
    ≡ record { m = (5, 4) ∷ []; o = (5, 7) ∷ (6, 8) ∷ []; reply = Both (Some 2) None })
both_answers = (refl, refl)

-- A pair for each of two maps can be read as an insertion into each, and it may be refused, and must be, just where one of them is so.
module _ {K V : Type 0} (cmp : K → K → Ordering) (refuses_key : K → TryReserveError → Type 0) (refuses_value : V → TryReserveError → Type 0)
    (m o : List (K × V)) (k l : K) (v w : V) where
  both_put_in : ((answer cmp (InsertBoth k v l w) m o).m ≡ (answer cmp (Insert k v) m o).m)
      × ((answer cmp (InsertBoth k v l w) m o).o ≡ (answer cmp (Insert l w) o m).m)
  both_put_in = (refl, refl)

  both_refused : (e : TryReserveError) → MayRefuseCommand cmp refuses_key refuses_value (InsertBoth k v l w) m o e
      ≡ (MayRefuseCommand cmp refuses_key refuses_value (Insert k v) m o e ⊎ MayRefuseCommand cmp refuses_key refuses_value (Insert l w) o m e)
  both_refused e = refl

  both_always_refused : MustRefuse cmp (InsertBoth k v l w) m o ≡ (MustRefuse cmp (Insert k v) m o ⊎ MustRefuse cmp (Insert l w) o m)
  both_always_refused = refl

-- An extension can be read pair by pair: each is put in as an insertion puts it, and the one where it stops may be refused as an
-- insertion there.
module _ {K V : Type 0} (cmp : K → K → Ordering) (refuses_key : K → TryReserveError → Type 0) (refuses_value : V → TryReserveError → Type 0)
    (m o : List (K × V)) where
  put_in_turn : (k : K) (v : V) (pairs : List (K × V)) → answer cmp (Extend ((k, v) ∷ pairs)) m o ≡ answer cmp (Extend pairs) (answer cmp (Insert k v) m o).m o
  put_in_turn k v pairs = refl

  stopped_in_turn : (pairs m' : List (K × V)) (e : TryReserveError) (s : MayStop cmp (Extend pairs) m m' e)
      → (m' ≡ (answer cmp (Extend s.front) m o).m) × MayRefuseCommand cmp refuses_key refuses_value (Insert s.item.0 s.item.1) m' o e
  stopped_in_turn pairs m' e s = (s.put_in, (s.new_key, s.error))
