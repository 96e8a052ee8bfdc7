-- What an account and a budget count, and what a budget stands over.
use Rattle.std.specs.Prelude.{ℕ}
use Rattle.fc_budget.specs.declared.account.Account.{Account}
use Rattle.fc_budget.specs.declared.capped.Capped.{Capped}
use Rattle.fc_budget.specs.declared.meter.Meter.{Meter}

-- How many bytes are out, and how many can be out at once.
abbrev pub used_of : Account → ℕ
used_of a = a.used

abbrev pub cap_of : Account → ℕ
cap_of a = a.cap

-- How many bytes of a budget can be out at once, and the allocator that they are taken from.
abbrev pub budget_cap : {B C : Type 0} → Capped B (Meter C) → ℕ
budget_cap b = b.meter.cap

abbrev pub budget_inner : {B M : Type 0} → Capped B M → B
budget_inner b = b.inner
