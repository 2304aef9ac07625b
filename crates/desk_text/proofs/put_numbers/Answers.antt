-- `desk_text::put_numbers` meets its contract. The loop's invariant: the first k numbers are behind the front,
-- in at most 21 bytes each. Assumes nothing.
use native.Mathlib.Numerals.{add-one}
use native.Mathlib.Omega.{arith}
use lib.ListN.{take, get_or}
use lib.Seq.{take-suc}
use Rattle.rule_laws.proofs.Decimal.{decimal_short}
use Rattle.listing_lines.proofs.Text.{appended_none, appended_more, appended_as}
use Rattle.desk_text.specs.Desk.{behind}
use Rattle.desk_text.proofs.Desk.{numbers_more}
use Rattle.desk_text.proofs.put_numbers.Goals as goal

pub loop-number-init : goal.loop-number-init
unfolding behind
loop-number-init c = (omega arith, appended_none _ _)

pub put_field-end-requires : goal.put_field-end-requires
put_field-end-requires c =
    let number = get_or c.args.numbers.now c.loop-number.number-index 0 in
    let fits = c.type_inv.numbers c.loop-number.number-index in
    omega (arith, decimal_short 20 number (omega arith) (omega (arith, fits)))

pub loop-number-preserved : goal.loop-number-preserved
loop-number-preserved c =
    let numbers = c.args.numbers.now in
    let k = c.loop-number.number-index in
    let fits = c.type_inv.numbers k in (
      omega (arith, decimal_short 20 (get_or numbers k 0) (omega arith) (omega (arith, fits))),
      rw (add-one k, take-suc numbers k 0 (omega arith))
          (appended_as (numbers_more (take k numbers) _) (appended_more c.loop-number.invariant.1 c.put_field-end.ensures)),
    )
