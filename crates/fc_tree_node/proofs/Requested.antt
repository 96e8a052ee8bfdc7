-- What nodes take that are made ahead.
use Rattle.std.proofs.Common.{◌≡◌, ℕ, zero, suc, ◌+◌, ◌*◌, ◌<◌, refl, arith}
use Rattle.fc_tree_node.specs.Requests.{list_requests}

-- Some nodes take a request for their list, and so many for each.
pub some_listed : (each n : ℕ) → 0 < n → list_requests each n ≡ each * n + 1
some_listed each zero some = absurd (omega arith)
some_listed each (suc n) some = refl
