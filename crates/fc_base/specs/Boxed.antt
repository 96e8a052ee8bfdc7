-- What a box holds.
use Rattle.fc_base.specs.declared.boxed.TryBox.{TryBox}

-- `*b`
abbrev pub boxed_value : {T Z : Type 0} → TryBox T Z → T
boxed_value b = b.inner.value
