-- `listing_text::put_nodes` meets its contract. The loop's invariant: the lines of the first i nodes are behind the
-- front, each of at most 18 bytes. Assumes nothing.
use Prim.Native.Nat.{ℕ, ◌+◌, ◌*◌, ◌≤◌}
use mathlib.Core.Path.{◌≡◌}
use mathlib.Core.List.{List, ◌++◌}
use lib.ListN.{length}
use Rattle.rules.specs.Records.{Netlist, WellFormed}
use Rattle.rules.specs.Families.{families}
use Rattle.rules.specs.Slices.{work_bytes}
use Rattle.rules.specs.Listing.{most_line}
use Rattle.rule_laws.proofs.Listing.{first_lines}
use Rattle.netlists.specs.Netlists.{flat_of}
use Rattle.listing_lines.specs.Text.{Appended}
use Rattle.listing_text.proofs.put_nodes.Given as goal

abbrev pub invariant-loop-i : goal.invariant-loop-i
invariant-loop-i l =
    (length l.text ≡ length l.initial.text)
    × (l.end ≤ l.at + most_line * l.i)
    × ((n : Netlist) (rest : List ℕ) → WellFormed n → l.fn.netlist ≡ flat_of n → l.work ≡ work_bytes (families n) ++ rest → Appended l.initial.text l.text l.at l.end (first_lines n l.i))
