-- `marks::last_mark` meets its contract: what the node's family reports is its mark. Assumes nothing.
use mathlib.Core.Path.{sym, ◌∙◌}
use native.Mathlib.Omega.{arith}
use Rattle.rules.specs.Slices.{mark_number}
use Rattle.netlists.proofs.Netlists.{value_count}
use Rattle.families.specs.Layers.{number_of}
use Rattle.suspect_sets.specs.Sets.{report_of}
use Rattle.suspect_sets.proofs.Sets.{tested_there}
use Rattle.marks.proofs.Layers.{untested_mark, tested_mark}
use Rattle.marks.proofs.last_mark.Goals as goal

pub returns-then-not-is_tested : goal.returns-then-not-is_tested
returns-then-not-is_tested c n e =
    untested_mark n (number_of c.args.layer) _ _ (omega (arith, value_count n e)) (sym (tested_there _ n e _ (omega arith) c.is_tested.ensures) ∙ c.if-not-is_tested.true)

pub returns-in-Some : goal.returns-in-Some
unfolding report_of mark_number
returns-in-Some c n e =
    tested_mark n (number_of c.args.layer) _ _ (omega (arith, value_count n e)) _
    (sym (tested_there _ n e _ (omega arith) c.is_tested.ensures) ∙ c.if-not-is_tested.false)
    (rw c.part.ensures.at at (c.in-Some.ensures.reported n.variables (c.classes_of-classes.ensures n e)))

pub returns-in-None : goal.returns-in-None
unfolding report_of mark_number
returns-in-None c n e =
    tested_mark n (number_of c.args.layer) _ _ (omega (arith, value_count n e)) _
    (sym (tested_there _ n e _ (omega arith) c.is_tested.ensures) ∙ c.if-not-is_tested.false)
    (rw c.part.ensures.at at (c.in-None.ensures.reported n.variables (c.classes_of-classes.ensures n e)))
