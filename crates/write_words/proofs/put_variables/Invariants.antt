-- `write_words::put_variables` meets its contract. The loop's invariant: the lines of the first i variables are at the
-- front. Assumes nothing.
use Prim.Native.Nat.{◌*◌, ◌≤◌}
use mathlib.Core.Path.{◌≡◌}
use mathlib.Core.List.{map}
use lib.ListN.{length, take}
use Rattle.rules.specs.Records.{Netlist, variable}
use Rattle.netlists.specs.Netlists.{flat_of}
use Rattle.listing_lines.specs.Text.{Appended}
use Rattle.write_words.specs.Worded.{record_lines, most_variable_line}
use Rattle.write_words.proofs.put_variables.Given as goal

abbrev pub invariant-loop-class : goal.invariant-loop-class
invariant-loop-class l =
    (l.at ≤ most_variable_line * l.class-index) × (length l.text ≡ length l.initial.text)
    × ((n : Netlist) → l.fn.netlist ≡ flat_of n → Appended l.initial.text l.text 0 l.at (record_lines (map variable (take l.class-index n.variables))))
