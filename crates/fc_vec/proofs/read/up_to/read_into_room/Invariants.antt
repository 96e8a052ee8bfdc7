use Rattle.std.proofs.Common.{ℕ, ◌≡◌, ◌+◌, ◌≤◌, List, ◌++◌, length}
use Rattle.std.specs.Io.KnownBytes.{Consumes}
use Rattle.fc_vec.proofs.read.up_to.read_into_room.Given as goal

-- What was read so far, and that the rest has room.
abbrev pub invariant-loop-left : goal.invariant-loop-left
invariant-loop-left g l = record {
  read : (bytes : List ℕ) × (length bytes + l.left ≡ l.fn.limit) × (l.buf.items ≡ l.fn.buf.items ++ bytes)
      × Consumes (g.R.Read.remaining l.fn.src) (g.R.Read.remaining l.src) bytes;
  room : length l.buf.items + l.left ≤ l.buf.room;
  kept : l.fn.buf.room ≤ l.buf.room;
}

abbrev pub decreases-loop-left : goal.decreases-loop-left
decreases-loop-left g l = l.left
