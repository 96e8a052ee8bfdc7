-- Two stretches that touch, and hold equal values, and the list in which they are one.
use Rattle.std.specs.Prelude.{◌≡◌, Bool, true, List, [], ◌∷◌, ◌++◌, Some}
use Rattle.std.specs.declared.cmp.Ordering.{Ordering}
use Rattle.std.specs.declared.cmp.Ordering.TheVariants.{Equal}
use Rattle.fc_base.specs.Halves.{not_below}
use Rattle.fc_base.specs.Parts.{above, below, value_at}
use Rattle.fc_laws.specs.Words.{last_item}
use Rattle.fc_intervals.specs.declared.stretch.Stretch.{Stretch}

-- The last stretch that starts before a point ends at another one then.
pub record IsDrawnOut {K V : Type 0} (cmp : K → K → Ordering) (a : K) (s : List (K × Stretch K V)) (end : K) (new : List (K × Stretch K V)) : Type 0 where
  pub lead : List (K × Stretch K V)
  pub last : K × Stretch K V
  pub before : below cmp s a ≡ lead ++ last ∷ []
  pub is : new ≡ lead ++ (last.0, record { end = end; value = last.1.value }) ∷ not_below cmp s a

module _ {K V : Type 0} (cmp : K → K → Ordering) (eq : V → V → Bool) (a : K) (s : List (K × Stretch K V)) where
  -- The first ends at the point, the second starts there, and their values are equal.
  pub record AreJoint (first : K × Stretch K V) (second : Stretch K V) : Type 0 where
    pub last : last_item (below cmp s a) ≡ Some first
    pub starts : value_at cmp s a ≡ Some second
    pub touch : cmp first.1.end a ≡ Equal
    pub equal : eq first.1.value second.value ≡ true

  -- Two such stretches are one in the new list, which has the value of the first, and all others.
  pub record IsJoined (new : List (K × Stretch K V)) : Type 0 where
    pub first : K × Stretch K V
    pub second : Stretch K V
    pub joint : AreJoint first second
    pub lead : List (K × Stretch K V)
    pub before : below cmp s a ≡ lead ++ first ∷ []
    pub is : new ≡ lead ++ (first.0, record { end = second.end; value = first.1.value }) ∷ above cmp s a

  -- No two stretches are such.
  abbrev pub NoneJoint : Type 0
  NoneJoint = (first : K × Stretch K V) (second : Stretch K V) → ¬ (AreJoint first second)
