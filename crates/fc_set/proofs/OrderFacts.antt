-- How two items stand to one another, by the tests of their order that were made.
use Rattle.std.proofs.Common.{◌≡◌, Bool, true, false, sym, ◌∙◌}
use Rattle.std.specs.Ordering.{is_lt, is_eq, is_gt}
use Rattle.std.specs.declared.cmp.Ordering.{Ordering}
use Rattle.std.specs.declared.cmp.Ordering.TheVariants.{Less, Equal, Greater}
use Rattle.std.proofs.lemmas.Bool.{true≢false}

pub less_if : (o order : Ordering) (less : Bool) → order ≡ o → less ≡ is_lt order → less ≡ true → o ≡ Less
less_if o Less less is e h = sym is
less_if o Equal less is e h = absurd (true≢false (sym h ∙ e))
less_if o Greater less is e h = absurd (true≢false (sym h ∙ e))

pub greater_if : (o order : Ordering) (greater : Bool) → order ≡ o → greater ≡ is_gt order → greater ≡ true → o ≡ Greater
greater_if o Less greater is e h = absurd (true≢false (sym h ∙ e))
greater_if o Equal greater is e h = absurd (true≢false (sym h ∙ e))
greater_if o Greater greater is e h = sym is

pub equal_if : (o order : Ordering) (equal : Bool) → order ≡ o → equal ≡ is_eq order → equal ≡ true → o ≡ Equal
equal_if o Less equal is e h = absurd (true≢false (sym h ∙ e))
equal_if o Equal equal is e h = sym is
equal_if o Greater equal is e h = absurd (true≢false (sym h ∙ e))

pub equal_else : (o order : Ordering) (greater less : Bool) → order ≡ o → greater ≡ is_gt order → greater ≡ false → less ≡ is_lt order → less ≡ false
    → o ≡ Equal
equal_else o Less greater less is e h f i = absurd (true≢false (sym f ∙ i))
equal_else o Equal greater less is e h f i = sym is
equal_else o Greater greater less is e h f i = absurd (true≢false (sym e ∙ h))

pub greater_else : (o order : Ordering) (less equal : Bool) → order ≡ o → less ≡ is_lt order → less ≡ false → equal ≡ is_eq order → equal ≡ false → o ≡ Greater
greater_else o Less less equal is e h f i = absurd (true≢false (sym e ∙ h))
greater_else o Equal less equal is e h f i = absurd (true≢false (sym f ∙ i))
greater_else o Greater less equal is e h f i = sym is
