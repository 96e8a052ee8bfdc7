-- A refusal among items that were taken.
use Rattle.std.proofs.Common.{List, ◌∷◌, ◌++◌, ap, ◌∙◌, append_assoc}
use Rattle.std.specs.declared.cmp.Ordering.{Ordering}
use Rattle.fc_base.specs.declared.try_reserve_error.TryReserveError.{TryReserveError}
use Rattle.fc_base.specs.Extended.{IsExtendedUpTo}

-- It is one among these and those that come after.
pub stopped_before : {K V : Type 0} (cmp : K → K → Ordering) (old new : List (K × V)) (e : TryReserveError) (taken more : List (K × V))
    → IsExtendedUpTo cmp old taken new e → IsExtendedUpTo cmp old (taken ++ more) new e
stopped_before cmp old new e taken more s = record {
  front = s.front;
  item = s.item;
  rest = s.rest ++ more;
  taken = ap (λ l. l ++ more) s.taken ∙ append_assoc s.front (s.item ∷ s.rest) more;
  put_in = s.put_in;
  new_key = s.new_key;
  error = s.error;
}
