use Rattle.std.proofs.Common.{arith}
use Rattle.std.proofs.lemmas.Fmt.{length-decimal-le}
use Rattle.fc_lines.proofs.replies.write_number.Goals as goal

pub returns-in_err-extend_from_slice-clause-short : goal.returns-in_err-extend_from_slice-clause-short
returns-in_err-extend_from_slice-clause-short c = length-decimal-le 20 c.args.n (omega arith) (omega arith) c.ranges.n.fits
