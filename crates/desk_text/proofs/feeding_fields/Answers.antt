-- `desk_text::feeding_fields` meets its contract. The loop's invariant: behind the word are the numbers of the marked
-- nodes below i, each in at most four bytes with its blank. Assumes nothing.
use mathlib.Core.Path.{◌≡◌}
use native.Mathlib.Omega.{arith}
use Rattle.rules.specs.Listing.{word}
use Rattle.rules.specs.Records.{most_nodes}
use Rattle.rule_laws.proofs.Decimal.{decimal_short}
use Rattle.listing_lines.proofs.Text.{appended_none, appended_more, appended_as}
use Rattle.desk_text.specs.Desk.{behind, parted, marked_below, feeding_text}
use Rattle.desk_text.proofs.Desk.{marked_more, marked_same}
use Rattle.desk_text.proofs.feeding_fields.Goals as goal
use Rattle.desk_text.proofs.feeding_fields.Goals.{else-marked, then-marked}

pub loop-i-init : goal.loop-i-init
unfolding behind marked_below
loop-i-init c = (omega arith, appended_none _ _)

pub put_field-end-requires : goal.put_field-end-requires
put_field-end-requires c =
    let i = c.loop-i.i in
    omega (arith, decimal_short 3 i (omega arith) (omega arith))

pub loop-i-preserved : goal.loop-i-preserved
loop-i-preserved c =
    let i = c.loop-i.i in
    let short = decimal_short 3 i (omega arith) (omega arith) in
    elim c.if-marked.branch [
      | then-marked w ↦ (
        omega (arith, w.put_field-end.ensures.place),
        rw (w.text-is, w.end-is) (appended_as (marked_more _ i w.if-marked.true) (appended_more c.loop-i.invariant.1 w.put_field-end.ensures)),
      )
      | else-marked w ↦ (omega arith, rw (w.text-is, w.end-is) (appended_as (marked_same _ i w.if-marked.false) c.loop-i.invariant.1))
    ]

pub returns-clause-appended : goal.returns-clause-appended
unfolding word parted feeding_text
returns-clause-appended c =
    let loop = c.loop-i in
    let all : loop.i ≡ most_nodes = omega arith in
    rw (← all) (appended_more c.put_word-end.ensures loop.invariant.1)
