-- A list that a loop goes over: what is done and what is left.
use Rattle.std.proofs.Common.{◌≡◌, ℕ, ◌∷◌, ◌++◌, [], List, length, sym, ap, ◌∙◌, append_assoc, append-nil}
use Rattle.std.proofs.lemmas.List.{nil_from_length}

pub none_left : {X : Type 0} (all done rest : List X) → all ≡ done ++ rest → length rest ≡ 0 → all ≡ done
none_left all done rest is none = is ∙ ap (λ l. done ++ l) (nil_from_length rest none) ∙ append-nil done

pub moved_on : {X : Type 0} (all done : List X) (x : X) (left rest : List X) → all ≡ done ++ left → left ≡ x ∷ rest → all ≡ (done ++ x ∷ []) ++ rest
moved_on all done x left rest is next = is ∙ ap (λ l. done ++ l) next ∙ sym (append_assoc done (x ∷ []) rest)
