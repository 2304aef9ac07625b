-- `desk_text::step_fields` meets its contract: a byte has at most three digits, and the others are behind it.
-- Assumes nothing.
use native.Mathlib.Omega.{arith}
use Rattle.rule_laws.proofs.Decimal.{decimal_short}
use Rattle.listing_lines.proofs.Text.{appended_more}
use Rattle.desk_text.specs.Desk.{parted, step_text}
use Rattle.desk_text.proofs.step_fields.Goals as goal

pub put_decimal-end-requires : goal.put_decimal-end-requires
put_decimal-end-requires c = omega (arith, decimal_short 3 c.args.step.node (omega arith) (omega arith))

pub put_numbers-requires : goal.put_numbers-requires
put_numbers-requires c = omega (arith, decimal_short 3 c.args.step.node (omega arith) (omega arith))

pub returns-clause-appended : goal.returns-clause-appended
unfolding parted step_text
returns-clause-appended c = appended_more c.put_decimal-end.ensures c.put_numbers.ensures.appended
