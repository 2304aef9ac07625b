-- `write_words::put_numbers` meets its contract: an input has the variables of its set, and every other node its
-- operands. The loop's invariant: the first j operands are put, each in at most three digits with its blank. Assumes nothing.
use Prim.Native.Nat.{◌+◌, ◌*◌, ◌≤◌}
use mathlib.Core.Path.{◌≡◌}
use lib.ListN.{length, take}
use Rattle.listing_lines.specs.Text.{Appended}
use Rattle.write_words.specs.Worded.{fields}
use Rattle.write_words.proofs.put_numbers.Given as goal

abbrev pub invariant-loop-operand : goal.invariant-loop-operand
invariant-loop-operand l =
    (length l.text ≡ length l.initial.text) × (l.end ≤ l.initial.end + 4 * l.operand-index)
    × Appended l.initial.text l.text l.initial.end l.end (fields (take l.operand-index l.operand-items))
