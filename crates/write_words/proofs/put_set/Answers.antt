-- `write_words::put_set` meets its contract. The loop's invariant: the variables of the set that are below the next one
-- are put, each in two bytes with its blank. Assumes nothing.
use native.Mathlib.Omega.{arith}
use Rattle.rule_laws.proofs.Decimal.{decimal_short}
use Rattle.listing_lines.proofs.Text.{appended_none, appended_more, appended_as}
use Rattle.write_words.specs.Worded.{variables_below, fields}
use Rattle.write_words.proofs.Worded.{held_more, held_same}
use Rattle.write_words.proofs.put_set.Goals as goal
use Rattle.write_words.proofs.put_set.Goals.{else-set-variable-eq1, then-set-variable-eq1}

pub loop-variable-init : goal.loop-variable-init
unfolding fields variables_below
loop-variable-init c = (omega arith, appended_none _ _)

pub put_field-end-requires : goal.put_field-end-requires
put_field-end-requires c =
    let variable = c.loop-variable.variable in
    omega (arith, decimal_short 1 variable (omega arith) (omega arith))

pub loop-variable-preserved : goal.loop-variable-preserved
loop-variable-preserved c =
    let variable = c.loop-variable.variable in
    let short = decimal_short 1 variable (omega arith) (omega arith) in
    elim c.if-set-variable-eq1.branch [
      | then-set-variable-eq1 w ↦ (
        omega (arith, w.put_field-end.ensures.place),
        rw (w.text-is, w.end-is) (appended_as (held_more _ variable w.if-set-variable-eq1.true) (appended_more c.loop-variable.invariant.1 w.put_field-end.ensures)),
      )
      | else-set-variable-eq1 w ↦ (omega arith, rw (w.text-is, w.end-is) (appended_as (held_same _ variable w.if-set-variable-eq1.false) c.loop-variable.invariant.1))
    ]
