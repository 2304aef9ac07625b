-- `listing_lines::put_decimal` meets its contract: a number below ten is one digit; another is the digits of the rest,
-- and behind them its last digit. Assumes nothing.
use Rattle.std.proofs.Common.{◌≡◌, ℕ, ◌+◌, ◌/◌, ◌<◌, ◌≤◌, ap, ◌∙◌, sym, arith, length, length-append}
use Rattle.rules.specs.Listing.{decimal}
use Rattle.rule_laws.proofs.Decimal.{decimal_less, decimal_more}
use Rattle.listing_lines.proofs.Text.{appended_more, appended_as}
use Rattle.listing_lines.proofs.+put_decimal.Goals as goal

-- how many digits there are
one_digit : (x : ℕ) → x < 10 → length (decimal x) ≡ 1
one_digit x h = ap length (decimal_less x h)

more_digits : (x : ℕ) → 10 ≤ x → length (decimal x) ≡ length (decimal (x / 10)) + 1
more_digits x h = ap length (decimal_more x h) ∙ simp length-append

pub put_byte-requires : goal.put_byte-requires
put_byte-requires t c = omega (arith, one_digit c.args.number c.if-number-lt10.true)

pub returns-then-number-lt10 : goal.returns-then-number-lt10
returns-then-number-lt10 t c = appended_as (sym (decimal_less _ c.if-number-lt10.true)) c.put_byte.ensures

pub put_decimal-last-requires : goal.put_decimal-last-requires
put_decimal-last-requires t c = (omega arith, omega (arith, more_digits c.args.number c.if-number-lt10.false))

pub put_byte-requires-2 : goal.put_byte-requires-2
put_byte-requires-2 t c = omega (arith, more_digits c.args.number c.if-number-lt10.false)

pub returns : goal.returns
returns t c =
    appended_as (sym (decimal_more _ c.if-number-lt10.false)) (appended_more c.put_decimal-last.ensures c.put_byte-2.ensures)
