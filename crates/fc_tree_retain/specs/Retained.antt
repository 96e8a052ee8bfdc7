-- A closure asked of each pair of a list in turn, with its value lent for writing: the pairs stay at which it answers true.
use Rattle.std.specs.Prelude.{◌≡◌, Bool, not, cond, List, [], ◌∷◌}
use Rattle.std.specs.Bool.{MatchBool}
use Rattle.std.specs.Borrow.{Bor, MutBor}
use Rattle.std.specs.Fn.{Mut, Called, CalledAt}

-- A call of f at the pair's key and a `&mut` to its value may leave f' and the value w there, and answer b.
pub record AskedAtPair {F K V : Type 0} (g : Mut F (Bor K × (MutBor V × Unit {0})) (Bool × (MutBor V × Unit {0}))) (f : F) (e : K × V) (f' : F) (w : V) (b : Bool) : Type 0 where
  pub key : Bor K
  pub shown : MutBor V
  pub shows : (key.now ≡ e.0) × (shown.now ≡ e.1)
  pub left : MutBor V
  pub called : Called g f (key, (shown, tt)) (b, (left, tt)) f'
  pub leaves : left.now ≡ w

-- A call of h with the pair's key and value may leave h'.
abbrev pub GivenPair : {E K V : Type 0} → Mut E (K × (V × Unit {0})) (Unit {0}) → E → K × V → E → Type 0
GivenPair g h e h' = Called g h (e.0, (e.1, tt)) tt h'

-- A call of f at the pair's key may leave f' and answer b; the value stays.
abbrev pub AskedAtKey : {F K V : Type 0} → Mut F (Bor K × Unit {0}) Bool → F → K × V → F → V → Bool → Type 0
AskedAtKey g f e f' w b = CalledAt g f e.0 b f' × (w ≡ e.1)

-- A call of h with the pair's key may leave h'.
abbrev pub GivenKey : {E K V : Type 0} → Mut E (K × Unit {0}) (Unit {0}) → E → K × V → E → Type 0
GivenKey g h e h' = Called g h (e.0, tt) tt h'

-- The first state is asked at the pair, and leaves the value w there. Where the answer is true the pair does not stay, and the second is given it.
abbrev pub ExtractsBy : {F E K V : Type 0} → (F → K × V → F → V → Bool → Type 0) → (E → K × V → E → Type 0) → F × E → K × V → F × E → V → Bool → Type 0
ExtractsBy asks gives s e t w stays = (picked : Bool) × asks s.0 e t.0 w picked × (stays ≡ not picked) × MatchBool stays (t.1 ≡ s.1) (gives s.1 (e.0, w) t.1)

-- R at the pairs of a list in turn took the state f to f', and ys has those pairs of which it said true, with the values that it left.
abbrev pub RetainsInTurn : {F K V : Type 0} → (F → K × V → F → V → Bool → Type 0) → F → List (K × V) → F → List (K × V) → Type 0
RetainsInTurn R f [] f' ys = (f' ≡ f) × (ys ≡ [])
RetainsInTurn {F} {K} {V} R f (e ∷ es) f' ys = (g : F) × (w : V) × (b : Bool) × (zs : List (K × V)) × R f e g w b × RetainsInTurn R g es f' zs × (ys ≡ cond b ((e.0, w) ∷ zs) zs)
