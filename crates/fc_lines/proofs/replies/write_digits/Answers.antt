use Rattle.std.proofs.Common.{◌≡◌, ℕ, ◌+◌, ◌-◌, ◌%◌, ◌/◌, ◌≤◌, ◌<◌, ◌^◌, length, refl, ap, ◌∙◌, arith, append-nil, append_assoc, length-append}
use Rattle.std.proofs.lemmas.Fmt.{decimal_digit, decimal_step, decimal_nonempty, length-decimal-le}
use Rattle.std.proofs.lemmas.List.{drop-set, drop_all, length-set}
use Rattle.std.specs.Fmt.{decimal}
use Rattle.fc_lines.proofs.replies.write_digits.Goals as goal

length_step : (n : ℕ) → 10 ≤ n → n < 2 ^ 64 → length (decimal n) ≡ length (decimal (n / 10)) + 1
length_step n lo hi = ap length (decimal_step n lo hi) ∙ length-append _ _

-- there is room for the digits that are missing
at_least : (start n left : ℕ) → n < 2 ^ 64 → left < 2 ^ 64 → start + length (decimal n) ≡ 20 + length (decimal left) → 1 ≤ start
at_least start n left fits fits_left e = omega (arith, length-decimal-le 20 n (omega arith) (omega arith) fits, decimal_nonempty left fits_left)

pub loop-left-init : goal.loop-left-init
loop-left-init c = (omega arith, omega arith, omega arith, refl, rw (drop_all 20 c.args.digits.now (omega arith), append-nil))

pub loop-left-preserved : goal.loop-left-preserved
loop-left-preserved c =
    let l = c.loop-left in
    let fewer = length_step l.left c.loop-left-test.true l.auto.left-fits.fits in
    let same : l.start - 1 + length (decimal c.args.n) ≡ 20 + length (decimal (l.left / 10)) = omega (arith, l.invariant.3) in
    let e : l.start - 1 + 1 ≡ l.start = omega arith in (
      at_least _ c.args.n (l.left / 10) c.ranges.n.fits (omega (arith, l.auto.left-fits.fits)) same,
      omega arith,
      omega (arith, length-set l.digits (l.start - 1) (48 + l.left % 10)),
      same,
      rw (drop-set l.digits (l.start - 1) _ (omega arith), e)
          (rw (decimal_step l.left c.loop-left-test.true l.auto.left-fits.fits, append_assoc) at l.invariant.4),
    )

pub returns-clause-start : goal.returns-clause-start
returns-clause-start c =
    let one : length (decimal c.loop-left.left) ≡ 1 = ap length (decimal_digit c.loop-left.left (omega arith)) in
    omega arith

pub returns-clause-written : goal.returns-clause-written
returns-clause-written c =
    let l = c.loop-left in
    let e : l.start - 1 + 1 ≡ l.start = omega arith in
    rw (drop-set l.digits (l.start - 1) _ (omega arith), e) (rw (decimal_digit l.left (omega arith)) at l.invariant.4)
