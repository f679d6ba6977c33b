use Rattle.std.proofs.Common.{get_or, arith, below_more}
use Rattle.std.proofs.lemmas.Int.Digits.{digits_value_more}
use Rattle.std.proofs.lemmas.Str.{digit_value_digit}
use Rattle.case_lines.proofs.run.held_number.Goals as goal

pub loop-digit-preserved : goal.loop-digit-preserved
loop-digit-preserved c =
    let i = c.loop-digit.digit-index in
    let digit = c.if-not-is_ascii_digit.ensures.cases in
    let more = digits_value_more 10 c.args.digits.now i c.loop-digit-test.true in
    let is = digit_value_digit (get_or c.args.digits.now i 0) digit in
    record {
      number = omega (arith, c.loop-digit.invariant.number, more, is, c.saturating_mul.ensures, c.from.ensures, c.saturating_add.ensures, c.min-number.ensures);
      plain = below_more _ _ c.loop-digit.invariant.plain digit;
    }
