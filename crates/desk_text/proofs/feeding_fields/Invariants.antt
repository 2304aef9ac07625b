-- `desk_text::feeding_fields` meets its contract. The loop's invariant: behind the word are the numbers of the marked
-- nodes below i, each in at most four bytes with its blank. Assumes nothing.
use Prim.Native.Nat.{◌+◌, ◌*◌, ◌≤◌}
use mathlib.Core.List.{map}
use Rattle.rules.specs.Listing.{decimal}
use Rattle.listing_lines.specs.Text.{Appended}
use Rattle.desk_text.specs.Desk.{behind, marked_below}
use Rattle.desk_text.proofs.feeding_fields.Given as goal

abbrev pub invariant-loop-i : goal.invariant-loop-i
invariant-loop-i l =
    (l.end ≤ l.initial.end + 4 * l.i) × Appended l.initial.text l.text l.initial.end l.end (behind (map decimal (marked_below l.fn.marks l.i)))
