use Rattle.std.proofs.Common.{◌++◌, length, take, drop, refl, rules}
use Rattle.fc_vec.proofs.vec.try_vec.TryVec.as_mut_slice.Goals as goal

pub returns : goal.returns
returns g c =
    let inner = c.self.inside.inner in (
      (refl, λ w. rw (← c.self.view_is) (λ i. record { items = take (inner.ok.0 i) (w ++ drop (length w) inner.items); room = inner.cap })),
      record { writes_back = tt; value = search rules },
    )
