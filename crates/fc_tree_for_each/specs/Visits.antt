-- A closure called at each pair of a list in turn, with its value lent for writing.
use Rattle.std.specs.Prelude.{◌≡◌, ℕ, ◌+◌, List, [], ◌∷◌, ◌++◌, length}
use Rattle.std.specs.Borrow.{Bor, MutBor}
use Rattle.std.specs.Fn.{Mut, Called}

-- A call of f at the pair's key and a `&mut` to its value may leave f' and the value w there.
pub record CalledAtPair {F K V : Type 0} (g : Mut F (Bor K × (MutBor V × Unit {0})) (Unit {0} × (MutBor V × Unit {0}))) (f : F) (e : K × V) (f' : F) (w : V) : Type 0 where
  pub key : Bor K
  pub shown : MutBor V
  pub shows : (key.now ≡ e.0) × (shown.now ≡ e.1)
  pub left : MutBor V
  pub called : Called g f (key, (shown, tt)) (tt, (left, tt)) f'
  pub leaves : left.now ≡ w

-- Calls by R at the pairs of xs in turn took the state f to f', and ys is xs with the values that they left.
abbrev pub VisitsInTurn : {F K V : Type 0} → (F → K × V → F → V → Type 0) → F → List (K × V) → F → List (K × V) → Type 0
VisitsInTurn R f [] f' ys = (f' ≡ f) × (ys ≡ [])
VisitsInTurn {F} {K} {V} R f (e ∷ es) f' ys = (g : F) × (w : V) × (zs : List (K × V)) × R f e g w × VisitsInTurn R g es f' zs × (ys ≡ (e.0, w) ∷ zs)

-- One list is the other with the values that calls by R in turn left, from after the pairs before up to those after; they took f to f'.
pub record IsVisited {F K V : Type 0} (R : F → K × V → F → V → Type 0) (f f' : F) (before after old new : List (K × V)) : Type 0 where
  pub within : List (K × V)
  pub left : List (K × V)
  pub old_is : old ≡ before ++ (within ++ after)
  pub new_is : new ≡ before ++ (left ++ after)
  pub visits : VisitsInTurn R f within f' left

-- The same, from one place among the pairs up to another.
pub record IsVisitedAt {F K V : Type 0} (R : F → K × V → F → V → Type 0) (f f' : F) (from to : ℕ) (old new : List (K × V)) : Type 0 where
  pub front : List (K × V)
  pub back : List (K × V)
  pub visited : IsVisited R f f' front back old new
  pub start : length front ≡ from
  pub stop : length front + length visited.within ≡ to
