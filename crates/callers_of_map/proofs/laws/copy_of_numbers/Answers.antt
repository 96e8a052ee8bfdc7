use Rattle.std.proofs.Common.{◌≡◌, ◌<◌, ℕ, List, length, inl, inr}
use Rattle.std.proofs.lemmas.Map.Entries.{entries_from_clone}
use Rattle.std.proofs.lemmas.Result.{MatchResult-weaker}
use Rattle.fc_base.specs.declared.try_reserve_error.TryReserveError.{TryReserveError}
use Rattle.fc_base.specs.declared.try_reserve_error.TryReserveError.TheVariants.{AllocError}
use Rattle.fc_base.specs.Copies.{MayRefuseCopies, MayRefusePair}
use Rattle.fc_map.specs.Entries.{entries}
use Rattle.callers_of_map.proofs.laws.copy_of_numbers.Goals as goal

-- No copy of a number is refused.
numbers_refused : (xs : List (ℕ × ℕ)) (e : TryReserveError) → MayRefuseCopies (MayRefusePair (λ _ _. ⊥) (λ _ _. ⊥)) xs e → (e ≡ AllocError) × (0 < length xs)
numbers_refused xs e (some, inl no_memory) = (no_memory, some)
numbers_refused xs e (some, inr (k, p, h, is, inl key)) = absurd key
numbers_refused xs e (some, inr (k, p, h, is, inr value)) = absurd value

pub returns-clause-same : goal.returns-clause-same
returns-clause-same c = MatchResult-weaker c.try_clone.result c.try_clone.ensures.copied (λ copy z. entries_from_clone _ _ (λ x y e. e) (λ x y e. e) _ _ z)
    (λ e h. tt)

pub returns-clause-error : goal.returns-clause-error
returns-clause-error c = MatchResult-weaker c.try_clone.result c.try_clone.ensures.copied (λ copy z. tt)
    (λ e may. numbers_refused (entries c.args.map.now) e may)
