-- `scanner::number_of` meets its contract: each letter is a digit more, unless it is none or the number does not fit.
-- Assumes nothing.
use Rattle.std.proofs.Common.{arith, sym, ◌∙◌}
use Rattle.scanner.specs.Numbers.{number_in}
use Rattle.scanner.proofs.Numbers.{from_place, no_digit, one_digit, too_high, at_end}
use Rattle.scanner.proofs.number_of.Goals as goal

pub returns-then-is_empty : goal.returns-then-is_empty
unfolding number_in
returns-then-is_empty c = rw (← c.if-is_empty.ensures)

pub loop-letter-init : goal.loop-letter-init
unfolding number_in
loop-letter-init c = (omega arith, rw (← c.if-is_empty.ensures))

pub returns-in_err-digit : goal.returns-in_err-digit
returns-in_err-digit c =
    c.from_residual.ensures ∙ sym (c.loop-letter.invariant.1 ∙ from_place _ _ _ c.loop-letter-test.true ∙ no_digit _ _ _ c.in_err-digit.ensures)

pub returns-in_err-checked_mul : goal.returns-in_err-checked_mul
returns-in_err-checked_mul c =
    let digit = c.in_ok-digit.ensures in
    let high = c.in_err-checked_mul.ensures in
    c.from_residual-in_err-checked_mul.ensures
    ∙ sym (c.loop-letter.invariant.1 ∙ from_place _ _ _ c.loop-letter-test.true ∙ one_digit _ _ _ digit.0 ∙ too_high _ _ _ (omega (arith, high)))

pub returns-in_err-value : goal.returns-in_err-value
returns-in_err-value c =
    let digit = c.in_ok-digit.ensures in
    let ten = c.in_ok-checked_mul.ensures in
    let high = c.in_err-value.ensures in
    c.from_residual-in_err-value.ensures
    ∙ sym (c.loop-letter.invariant.1 ∙ from_place _ _ _ c.loop-letter-test.true ∙ one_digit _ _ _ digit.0 ∙ too_high _ _ _ (omega (arith, digit.1, ten, high)))

pub loop-letter-preserved : goal.loop-letter-preserved
loop-letter-preserved c =
    let digit = c.in_ok-digit.ensures in
    let ten = c.in_ok-checked_mul.ensures in
    let next = c.in_ok-value.ensures in (
      omega (arith, next),
      c.loop-letter.invariant.1 ∙ from_place _ _ _ c.loop-letter-test.true ∙ one_digit _ _ _ digit.0 ∙ rw (next.1, ten.1, digit.1),
    )

pub returns : goal.returns
returns c =
    let loop = c.loop-letter in
    sym (loop.invariant.1 ∙ at_end _ c.args.word.now loop.letter-index (omega arith) loop.invariant.0)
