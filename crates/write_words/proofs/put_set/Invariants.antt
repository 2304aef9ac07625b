-- `write_words::put_set` meets its contract. The loop's invariant: the variables of the set that are below the next one
-- are put, each in two bytes with its blank. Assumes nothing.
use Prim.Native.Nat.{◌+◌, ◌*◌, ◌≤◌}
use Rattle.listing_lines.specs.Text.{Appended}
use Rattle.write_words.specs.Worded.{variables_below, fields}
use Rattle.write_words.proofs.put_set.Given as goal

abbrev pub invariant-loop-variable : goal.invariant-loop-variable
invariant-loop-variable l =
    (l.end ≤ l.initial.end + 2 * l.variable) × Appended l.initial.text l.text l.initial.end l.end (fields (variables_below l.variable l.set))
