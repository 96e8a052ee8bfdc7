-- A slot that is added holds no timer.
use Rattle.std.proofs.Common.{◌≡◌, ◌<◌, cond, [], ◌∷◌, ◌++◌, length, None, is_some, Result, Ok, Err, arith}
use Rattle.std.proofs.lemmas.List.{length_push}
use Rattle.std.proofs.lemmas.List.Sums.{sum_by_push, count_by-le-length}
use Rattle.std.specs.Prelude.{OnOk}
use Rattle.fc_timers.specs.Slotted.{Slotted, timer_count}

pub vacancy_added : {T V A E : Type 0} (r : Result A E) (old new : Slotted T V) → OnOk r (new.slots ≡ old.slots ++ None ∷ [])
    → OnOk r (timer_count new < length new.slots)
vacancy_added (Ok a) old new e =
    rw e (omega (arith, count_by-le-length is_some old.slots, sum_by_push (λ o. cond (is_some o) 1 0) old.slots None, length_push old.slots None))
vacancy_added (Err a) old new e = tt
