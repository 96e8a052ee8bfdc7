-- A closure asked of each item of a list in turn: the items stay at which it answers true.
use Rattle.std.specs.Prelude.{◌≡◌, Bool, not, cond, List, [], ◌∷◌}
use Rattle.std.specs.Bool.{MatchBool}
use Rattle.std.specs.Fn.{Mut, Called}

-- A call of h with the item may leave h'.
abbrev pub GivenItem : {E T : Type 0} → Mut E (T × Unit {0}) (Unit {0}) → E → T → E → Type 0
GivenItem g h x h' = Called g h (x, tt) tt h'

-- The first state is asked at the item. Where the answer is true the item does not stay, and the second is given it.
abbrev pub ExtractsItem : {F E T : Type 0} → (F → T → Bool → F → Type 0) → (E → T → E → Type 0) → F × E → T → Bool → F × E → Type 0
ExtractsItem asks gives s x stays t = (picked : Bool) × asks s.0 x picked t.0 × (stays ≡ not picked) × MatchBool stays (t.1 ≡ s.1) (gives s.1 x t.1)

-- R at the items of a list in turn took the state f to f', and ys has those items of which it said true.
abbrev pub RetainsItems : {F T : Type 0} → (F → T → Bool → F → Type 0) → F → List T → F → List T → Type 0
RetainsItems R f [] f' ys = (f' ≡ f) × (ys ≡ [])
RetainsItems {F} {T} R f (x ∷ xs) f' ys = (g : F) × (b : Bool) × (zs : List T) × R f x b g × RetainsItems R g xs f' zs × (ys ≡ cond b (x ∷ zs) zs)
