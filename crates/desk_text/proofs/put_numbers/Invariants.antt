-- `desk_text::put_numbers` meets its contract. The loop's invariant: the first k numbers are behind the front,
-- in at most 21 bytes each. Assumes nothing.
use Prim.Native.Nat.{◌+◌, ◌*◌, ◌≤◌}
use mathlib.Core.List.{map}
use lib.ListN.{take}
use Rattle.rules.specs.Listing.{decimal}
use Rattle.listing_lines.specs.Text.{Appended}
use Rattle.desk_text.specs.Desk.{behind}
use Rattle.desk_text.proofs.put_numbers.Given as goal

abbrev pub invariant-loop-number : goal.invariant-loop-number
invariant-loop-number l =
    (l.end ≤ l.at + 21 * l.number-index) × Appended l.initial.text l.text l.at l.end (behind (map decimal (take l.number-index l.numbers)))
