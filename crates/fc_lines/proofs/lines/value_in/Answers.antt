use Rattle.std.proofs.Common.{◌≡◌, take, ap, ◌∙◌, arith, take_all}
use Rattle.std.specs.Str.Parse.{digits_value}
use Rattle.fc_lines.proofs.LineFacts.{digit_step, number_small, too_great}
use Rattle.fc_lines.proofs.lines.value_in.Goals as goal

pub returns-in_err-tens : goal.returns-in_err-tens
returns-in_err-tens c = c.from_residual.ensures
    ∙ too_great _ _ _ c.requires c.loop-digit-test.true c.loop-digit.invariant.1 (omega (arith, c.in_err-tens.ensures))

pub returns-in_err-n : goal.returns-in_err-n
returns-in_err-n c = c.from_residual-in_err-n.ensures
    ∙ too_great _ _ _ c.requires c.loop-digit-test.true c.loop-digit.invariant.1
    (omega (arith, c.in_err-n.ensures, c.in_ok-tens.ensures, c.from.ensures))

pub loop-digit-preserved : goal.loop-digit-preserved
loop-digit-preserved c =
    let s = digit_step _ _ _ c.requires c.loop-digit-test.true c.loop-digit.invariant.1 in
    (omega (arith, c.in_ok-n.ensures), omega (arith, s.0, c.in_ok-n.ensures, c.in_ok-tens.ensures, c.from.ensures))

pub returns : goal.returns
returns c =
    let all : take c.loop-digit.digit-index c.args.digits.now ≡ c.args.digits.now = take_all _ _ (omega arith) in
    number_small (digits_value 10 c.args.digits.now) c.loop-digit.n (c.loop-digit.invariant.1 ∙ ap (digits_value 10) all) c.loop-digit.invariant.0
