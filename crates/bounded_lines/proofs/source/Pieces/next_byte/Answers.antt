use Rattle.std.proofs.Common.{sym, arith}
use Rattle.std.proofs.lemmas.Result.{err_from_is_err_and}
use Rattle.bounded_lines.proofs.PieceFacts.{nothing_left, byte_first, front_first, kept_of_known, taken_of_known, taken_first}
use Rattle.bounded_lines.proofs.source.Pieces.next_byte.Goals as goal
use Rattle.bounded_lines.proofs.source.Pieces.next_byte.Goals.{then-self+in_ok-count+else-count-eq0, else-self}

pub returns-in_err-count-clause-kept : goal.returns-in_err-count-clause-kept
returns-in_err-count-clause-kept g c =
    let p = err_from_is_err_and c.from_residual.result c.from_residual.ensures.1 in
    let i = c.self.inside in
    rw (p.1, sym c.self.view_is) (kept_of_known _ _ _ _ c.in_err-count.ensures.bytes (nothing_left i.piece i.start i.end (omega arith))
    (nothing_left c.fill.new.piece i.start i.end (omega arith)))

pub returns-clause-taken : goal.returns-clause-taken
returns-clause-taken g c =
    let i = c.self.inside in
    elim c.if-self.branch [
      | then-self+in_ok-count+else-count-eq0 w ↦
          rw (sym c.self.view_is, w.self-inside-is) (taken_first _ _ _ _ _ _ (nothing_left i.piece i.start i.end (omega arith)) w.in_ok-count.ensures.bytes.0
          (front_first w.fill.new.piece w.in_ok-count.count (omega arith) (omega (arith, w.in_ok-count.ensures.bound.0))))
      | else-self w ↦
          rw (sym c.self.view_is, w.self-inside-is) (taken_of_known _ _ _ _ (byte_first i.piece i.start i.end (omega arith) (omega arith)))
    ]
